-- Reading, writing and failing disks. Of two disks at most one fails.
use Rattle.std.specs.Prelude.{ℕ, Bool, true, false, not, ◌&&◌, List, [], ◌∷◌, Option, Some, None, map, length, slice_get, slice_set, nat_eq, nat_lt, if◌then◌else◌}
use Rattle.std.specs.List.{list_any}
use Rattle.gv_base.specs.declared.reason.Reason.TheVariants.{BadAddress, OutOfRange, BadBlockLength, Race}
use Rattle.gv_base.specs.declared.answer.Answer.{Answer}
use Rattle.gv_base.specs.declared.answer.Answer.TheVariants.{Next, Blocked, Undefined}
use Rattle.gv_base.specs.declared.val.Val.TheVariants as val
use Rattle.gv_base.specs.declared.slice_val.SliceVal.{SliceVal}
use Rattle.gv_world.specs.declared.cell.Cell.{Cell}
use Rattle.gv_world.specs.Answers.{and_then, undefined_if}
use Rattle.gv_world.specs.Store.{Cells, Disk, Store, block_bytes, fresh, with_new}
use Rattle.gv_world.specs.Cells.{cells_of, run, is_short, is_marked, only_bytes, bytes_in}

abbrev pub block_of : Disk → ℕ → Option (List ℕ)
block_of disk a = slice_get disk.blocks a

abbrev pub found_disk : Option Disk → ℕ → Answer Disk
found_disk None a = Undefined BadAddress
found_disk (Some disk) a = undefined_if (not (nat_lt a (length disk.blocks))) BadAddress (Next disk)

-- the disk under a number from 0 on, where it has the block
abbrev pub disk_with : Store → (d a : ℕ) → Answer Disk
disk_with s d a = found_disk (slice_get s.disks d) a

-- how many blocks each disk has; 0 without a disk
abbrev pub blocks_of : List Disk → ℕ
blocks_of [] = 0
blocks_of (disk ∷ disks) = length disk.blocks

abbrev pub disk_size : Store → ℕ
disk_size s = blocks_of s.disks

-- ---- reading

-- cells that hold these bytes
abbrev pub byte_cells : List ℕ → List Cell
byte_cells bytes = map (λ b. record { value = val.Byte b; marked = false }) bytes

-- a copy of the block as a fresh object; none where the disk has failed
abbrev pub block_read : Store → Disk → Option (List ℕ) → Answer (Store × Option ℕ)
block_read s disk None = Undefined BadAddress
block_read s disk (Some block) =
    if disk.failed
    then Next (s, None)
    else Next (with_new s (Cells (byte_cells block)), Some (fresh s))

abbrev pub disk_read : Store → (d a : ℕ) → Answer (Store × Option ℕ)
disk_read s d a = and_then (disk_with s d a) (λ disk. block_read s disk (block_of disk a))

-- ---- writing

-- the cells of a slice, as many as there are; the nil slice has none, whatever its length
abbrev pub slice_run : Store → SliceVal → Answer (List Cell)
slice_run s slice =
    if nat_eq slice.object 0
    then Next []
    else and_then (cells_of s slice.object) (λ cells. Next (run cells slice.offset slice.length))

abbrev pub length_of : SliceVal → ℕ
length_of slice = if nat_eq slice.object 0 then 0 else slice.length

-- the cells again, where they are a block's and no write of one has begun
abbrev pub whole : List Cell → SliceVal → Answer (List Cell)
whole cells slice =
    undefined_if (is_short cells (length_of slice)) OutOfRange
    (undefined_if (not (nat_eq (length_of slice) block_bytes)) BadBlockLength
    (undefined_if (is_marked cells) Race (Next cells)))

-- a disk that has failed stays as it is
abbrev pub with_block : Disk → ℕ → List ℕ → Disk
with_block disk a bytes = if disk.failed then disk else record disk { blocks = slice_set disk.blocks a bytes }

abbrev pub with_disk : Store → ℕ → Disk → Store
with_disk s d disk = record s { disks = slice_set s.disks d disk }

-- writes the bytes of a slice as long as a block, whole and in one access; they are read, and each reason comes,
-- on a failed disk too
abbrev pub disk_write : Store → (d a : ℕ) → SliceVal → Answer Store
disk_write s d a slice =
    and_then (slice_run s slice) (λ found.
    only_bytes found
    (and_then (disk_with s d a) (λ disk.
    and_then (whole found slice) (λ cells.
    Next (with_disk s d (with_block disk a (bytes_in cells)))))))

-- ---- failing

-- a disk may fail where there are two and neither has failed
abbrev pub may_fail : Store → ℕ → Bool
may_fail s d = nat_eq (length s.disks) 2 && nat_lt d 2 && not (list_any (λ disk. disk.failed) s.disks)

abbrev pub failed_at : Store → ℕ → Option Disk → Store
failed_at s d None = s
failed_at s d (Some disk) = with_disk s d (record disk { failed = true })

abbrev pub with_failed : Store → ℕ → Store
with_failed s d = failed_at s d (slice_get s.disks d)

-- not possible where it may not
abbrev pub fail_disk : Store → ℕ → Answer Store
fail_disk s d = if may_fail s d then Next (with_failed s d) else Blocked
