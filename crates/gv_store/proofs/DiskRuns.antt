-- Accesses to a disk, by the block that they reach.
use Rattle.std.proofs.Common.{◌≡◌, ◌∙◌, ℕ, ◌<◌, Bool, true, false, List, [], length, Some, None, get_or, ap, sym, subst}
use Rattle.std.specs.Prelude.{slice_get, not, if◌then◌else◌}
use Rattle.std.proofs.lemmas.Bool.{lt-ltb}
use Rattle.std.proofs.lemmas.Option.{slice_get-get_or}
use Rattle.gv_base.specs.declared.reason.Reason.{Reason}
use Rattle.gv_base.specs.declared.reason.Reason.TheVariants.{BadAddress, Kind}
use Rattle.gv_base.specs.declared.answer.Answer.{Answer}
use Rattle.gv_base.specs.declared.answer.Answer.TheVariants.{Next, Undefined}
use Rattle.gv_base.specs.declared.slice_val.SliceVal.{SliceVal}
use Rattle.gv_world.specs.declared.cell.Cell.{Cell}
use Rattle.gv_world.specs.Answers.{and_then, undefined_if}
use Rattle.gv_world.specs.Store.{Cells, Disk, Store, fresh, with_new}
use Rattle.gv_world.specs.Cells.{are_bytes, bytes_in}
use Rattle.gv_world.specs.Disks.{block_of, found_disk, disk_with, block_read, disk_read, byte_cells, slice_run, whole, with_block, with_disk, disk_write}
use Rattle.gv_cells.specs.Outcomes.{Does}

pub found_in : (s : Store) (d at a : ℕ) (disk : Disk) → at ≡ d → at < length s.disks → disk ≡ get_or s.disks at disk → a < length disk.blocks
    → disk_with s d a ≡ Next disk
found_in s d at a disk e lt is within =
    ap (λ x. found_disk x a) (ap (slice_get s.disks) (sym e) ∙ slice_get-get_or s.disks at disk lt ∙ ap Some (sym is))
    ∙ ap (λ b. undefined_if (not b) BadAddress (Next disk)) (lt-ltb a (length disk.blocks) within)

-- ---- reading

pub read_none : (s : Store) (d a : ℕ) (reason : Reason) → disk_with s d a ≡ Undefined reason → disk_read s d a ≡ Undefined reason
read_none s d a reason e = ap (λ x. and_then x (λ disk. block_read s disk (block_of disk a))) e

read_by : (s : Store) (d a : ℕ) (disk : Disk) (block : List ℕ) (failed : Bool) → disk_with s d a ≡ Next disk → block_of disk a ≡ Some block → disk.failed ≡ failed
    → disk_read s d a ≡ (if failed then Next (s, None) else Next (with_new s (Cells (byte_cells block)), Some (fresh s)))
read_by s d a disk block failed e f g =
    ap (λ x. and_then x (λ disk. block_read s disk (block_of disk a))) e
    ∙ ap (block_read s disk) f
    ∙ ap (λ b. if b then Next (s, None) else Next (with_new s (Cells (byte_cells block)), Some (fresh s))) g

pub read_failed : (s : Store) (d a : ℕ) (disk : Disk) → disk_with s d a ≡ Next disk → a < length disk.blocks → disk.failed ≡ true
    → disk_read s d a ≡ Next (s, None)
read_failed s d a disk e lt g = read_by s d a disk (get_or disk.blocks a []) true e (slice_get-get_or disk.blocks a [] lt) g

pub read_block : (s : Store) (d a : ℕ) (disk : Disk) (block : List ℕ) → disk_with s d a ≡ Next disk → block_of disk a ≡ Some block → disk.failed ≡ false
    → disk_read s d a ≡ Next (with_new s (Cells (byte_cells block)), Some (fresh s))
read_block s d a disk block e f g = read_by s d a disk block false e f g

-- ---- writing

abbrev written_from : Store → (d a : ℕ) → SliceVal → List Cell → Answer Disk → Answer Store
written_from s d a slice found there =
    and_then there (λ disk. and_then (whole found slice) (λ cells. Next (with_disk s d (with_block disk a (bytes_in cells)))))

pub write_none : (s : Store) (d a : ℕ) (slice : SliceVal) (reason : Reason) → slice_run s slice ≡ Undefined reason → disk_write s d a slice ≡ Undefined reason
write_none s d a slice reason e = ap (λ x. and_then x (λ found. undefined_if (not (are_bytes found)) Kind (written_from s d a slice found (disk_with s d a)))) e

pub write_by : (s : Store) (d a : ℕ) (slice : SliceVal) (found : List Cell) (bytes : Bool) → slice_run s slice ≡ Next found → are_bytes found ≡ bytes
    → disk_write s d a slice ≡ undefined_if (not bytes) Kind (written_from s d a slice found (disk_with s d a))
write_by s d a slice found bytes e f =
    ap (λ x. and_then x (λ found. undefined_if (not (are_bytes found)) Kind (written_from s d a slice found (disk_with s d a)))) e
    ∙ ap (λ b. undefined_if (not b) Kind (written_from s d a slice found (disk_with s d a))) f

pub write_nowhere : (s : Store) (d a : ℕ) (slice : SliceVal) (found : List Cell) (reason : Reason) → slice_run s slice ≡ Next found → are_bytes found ≡ true
    → disk_with s d a ≡ Undefined reason → disk_write s d a slice ≡ Undefined reason
write_nowhere s d a slice found reason e f g = write_by s d a slice found true e f ∙ ap (written_from s d a slice found) g

write_on : (s : Store) (d a : ℕ) (slice : SliceVal) (found : List Cell) (disk : Disk) (cells : Answer (List Cell)) → slice_run s slice ≡ Next found → are_bytes found ≡ true
    → disk_with s d a ≡ Next disk → whole found slice ≡ cells
    → disk_write s d a slice ≡ and_then cells (λ cells. Next (with_disk s d (with_block disk a (bytes_in cells))))
write_on s d a slice found disk cells e f g h =
    write_by s d a slice found true e f ∙ ap (written_from s d a slice found) g
    ∙ ap (λ x. and_then x (λ cells. Next (with_disk s d (with_block disk a (bytes_in cells))))) h

pub write_partly : (s : Store) (d a : ℕ) (slice : SliceVal) (found : List Cell) (disk : Disk) (reason : Reason) → slice_run s slice ≡ Next found → are_bytes found ≡ true
    → disk_with s d a ≡ Next disk → whole found slice ≡ Undefined reason → disk_write s d a slice ≡ Undefined reason
write_partly s d a slice found disk reason e f g h = write_on s d a slice found disk (Undefined reason) e f g h

pub written : (s : Store) (d a : ℕ) (slice : SliceVal) (found : List Cell) (disk : Disk) → slice_run s slice ≡ Next found → are_bytes found ≡ true
    → disk_with s d a ≡ Next disk → whole found slice ≡ Next found → disk_write s d a slice ≡ Next (with_disk s d (with_block disk a (bytes_in found)))
written s d a slice found disk e f g h = write_on s d a slice found disk (Next found) e f g h

-- ---- the store by what its fields show

pub does_as : (s w : Store) (d a : ℕ) (slice : SliceVal) (result : Answer (Unit {0})) (new : Store) → s ≡ w
    → Does (disk_write s d a slice) s result new → Does (disk_write w d a slice) w result new
does_as s w d a slice result new e does = subst (λ (x : Store). Does (disk_write x d a slice) x result new) e does

-- ---- as the code finds it: `s` is what the fields show, `w` the store, `l` the disks

pub read_in : (s w : Store) (l : List Disk) (d at a : ℕ) (disk : Disk) (block : List ℕ) (failed : Bool) → s ≡ w → l ≡ s.disks → (at ≡ d) × (at < length l)
    → ((x : Disk) → a < length (get_or l at x).blocks) → disk ≡ get_or s.disks at disk → block_of disk a ≡ Some block → failed ≡ disk.failed → failed ≡ false
    → disk_read w d a ≡ Next (with_new w (Cells (byte_cells block)), Some (fresh w))
read_in s w l d at a disk block failed e shown place within is found tells not_failed =
    subst (λ (x : Store). disk_read x d a ≡ Next (with_new x (Cells (byte_cells block)), Some (fresh x))) e
    (read_block s d a disk block
    (found_in s d at a disk place.0 (subst (λ (x : List Disk). at < length x) shown place.1) is
    (subst (λ (x : Disk). a < length x.blocks) (ap (λ x. get_or x at disk) shown ∙ sym is) (within disk)))
    found (sym tells ∙ not_failed))
