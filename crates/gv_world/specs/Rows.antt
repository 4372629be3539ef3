-- Worked rows of a store: what its accesses answer, one row or a few for each.
use Rattle.std.specs.Prelude.{◌≡◌, ◌-◌, ◌^◌, Bool, true, false, List, [], ◌∷◌, Some, None}
use Rattle.gv_base.specs.declared.reason.Reason.TheVariants as reason
use Rattle.gv_base.specs.declared.answer.Answer.TheVariants.{Next, Blocked, Undefined}
use Rattle.gv_base.specs.declared.val.Val.{Val}
use Rattle.gv_base.specs.declared.val.Val.TheVariants as val
use Rattle.gv_base.specs.declared.slice_val.SliceVal.{SliceVal}
use Rattle.gv_world.specs.declared.cell.Cell.{Cell}
use Rattle.gv_world.specs.Store.{Object, Cells, Map, Mutex, Disk, Store, with_new, with_object, live_cells, crashed, fresh}
use Rattle.gv_world.specs.Cells.{read_cell, begin_write, end_write, is_byte, read_bytes}
use Rattle.gv_world.specs.Mutexes.{lock, unlock}
use Rattle.gv_world.specs.FiniteMaps.{map_read, map_begin}
use Rattle.gv_world.specs.Disks.{disk_read, disk_write, with_block, fail_disk, disk_size}
use Rattle.gv_world.specs.Slices.{sub, has_spare, append_grow, new_cell, whole_of, nil_slice}

abbrev marked_cell : Val → Cell
marked_cell v = record { value = v; marked = true }

abbrev pub disk_of : Bool → Disk
disk_of failed = record { blocks = (1 ∷ 2 ∷ []) ∷ (3 ∷ 4 ∷ []) ∷ []; failed = failed }

-- 1 is a struct, 2 a slice of two bytes and a third cell, 3 a map, 4 a mutex
abbrev pub some_objects : List Object
some_objects =
    Cells (new_cell (val.Word 7) ∷ new_cell (val.Bool true) ∷ [])
    ∷ Cells (new_cell (val.Byte 8) ∷ new_cell (val.Byte 9) ∷ new_cell (val.Byte 0) ∷ [])
    ∷ Map ((5, 50) ∷ []) false
    ∷ Mutex false ∷ []

abbrev pub sample : Store
sample = record { objects = some_objects; disks = disk_of false ∷ disk_of false ∷ [] }

-- the same in the middle of a write of the struct's first cell and of one of the map, and with the mutex locked
abbrev pub in_writes : Store
in_writes = record {
  objects =
      Cells (marked_cell (val.Word 7) ∷ new_cell (val.Bool true) ∷ [])
      ∷ Cells (new_cell (val.Byte 8) ∷ new_cell (val.Byte 9) ∷ new_cell (val.Byte 0) ∷ [])
      ∷ Map ((5, 50) ∷ []) true
      ∷ Mutex true ∷ [];
  disks = disk_of false ∷ disk_of false ∷ [];
}

-- the sample with another first object
abbrev with_first : Object → Store
with_first first = record {
  objects = first
      ∷ Cells (new_cell (val.Byte 8) ∷ new_cell (val.Byte 9) ∷ new_cell (val.Byte 0) ∷ [])
      ∷ Map ((5, 50) ∷ []) false
      ∷ Mutex false ∷ [];
  disks = disk_of false ∷ disk_of false ∷ [];
}

abbrev two_bytes : SliceVal
two_bytes = record { object = 2; offset = 0; length = 2; capacity = 3 }

-- the first of two disks has failed
abbrev pub one_failed : Store
one_failed = record { objects = some_objects; disks = disk_of true ∷ disk_of false ∷ [] }

pub record CellRows : Type 0 where
  pub read : read_cell sample 1 0 ≡ Next (val.Word 7)
  pub a_byte_reads_as_a_word : read_cell sample 2 1 ≡ Next (val.Word 9)
  pub nil_use : read_cell sample 0 0 ≡ Undefined reason.NilUse
  pub no_cells : read_cell sample 3 0 ≡ Undefined reason.Kind
  pub no_object : read_cell sample 5 0 ≡ Undefined reason.Kind
  pub out_of_range : read_cell sample 1 2 ≡ Undefined reason.OutOfRange
  pub race : read_cell in_writes 1 0 ≡ Undefined reason.Race
  pub beside_a_write : read_cell in_writes 1 1 ≡ Next (val.Bool true)
  pub range_before_race : begin_write in_writes 1 0 3 ≡ Undefined reason.OutOfRange
  pub begins : begin_write sample 1 0 1 ≡ Next (with_first (Cells (marked_cell (val.Word 7) ∷ new_cell (val.Bool true) ∷ [])))
  pub begins_twice : begin_write in_writes 1 0 1 ≡ Undefined reason.Race
  pub ends : end_write in_writes 4 0 [] ≡ Undefined reason.Kind
  pub written : end_write in_writes 1 0 (val.Word 6 ∷ []) ≡ Next (with_object in_writes 1 (Cells (new_cell (val.Word 6) ∷ new_cell (val.Bool true) ∷ [])))
  pub byte_written : end_write sample 2 2 (val.Word 260 ∷ [])
      ≡ Next (with_object sample 2 (Cells (new_cell (val.Byte 8) ∷ new_cell (val.Byte 9) ∷ new_cell (val.Byte 4) ∷ [])))
  pub a_byte : is_byte sample 2 2 ≡ true
  pub no_byte : is_byte sample 1 0 ≡ false
  pub no_such_cell : is_byte sample 2 3 ≡ false
  pub bytes : read_bytes sample 2 0 2 ≡ Next (8 ∷ 9 ∷ [])
  pub words_are_no_bytes : read_bytes in_writes 1 0 5 ≡ Undefined reason.Kind

pub record MapRows : Type 0 where
  pub read : map_read sample 3 5 ≡ Next (Some 50)
  pub absent : map_read sample 3 6 ≡ Next None
  pub nil_use : map_read sample 0 5 ≡ Undefined reason.NilUse
  pub no_map : map_read sample 4 5 ≡ Undefined reason.Kind
  pub race : map_read in_writes 3 5 ≡ Undefined reason.Race
  pub begins_twice : map_begin in_writes 3 ≡ Undefined reason.Race

pub record MutexRows : Type 0 where
  pub waits : lock in_writes 4 ≡ Blocked
  pub nil_use : lock sample 0 ≡ Undefined reason.NilUse
  pub no_mutex : lock sample 3 ≡ Undefined reason.Kind
  pub free : unlock sample 4 ≡ Undefined reason.UnlockFree

pub record DiskRows : Type 0 where
  pub size : disk_size sample ≡ 2
  pub no_disk : disk_read sample 2 0 ≡ Undefined reason.BadAddress
  pub no_block : disk_read sample 1 2 ≡ Undefined reason.BadAddress
  pub no_block_of_a_failed_disk : disk_read one_failed 0 2 ≡ Undefined reason.BadAddress
  pub failed : disk_read one_failed 0 1 ≡ Next (one_failed, None)
  pub too_short : disk_write sample 0 1 two_bytes ≡ Undefined reason.BadBlockLength
  pub too_short_for_a_failed_disk : disk_write one_failed 0 1 two_bytes ≡ Undefined reason.BadBlockLength
  pub nil_is_too_short : disk_write sample 0 1 nil_slice ≡ Undefined reason.BadBlockLength
  pub address_before_length : disk_write sample 0 2 two_bytes ≡ Undefined reason.BadAddress
  pub block_written : with_block (disk_of false) 0 (9 ∷ []) ≡ record { blocks = (9 ∷ []) ∷ (3 ∷ 4 ∷ []) ∷ []; failed = false }
  pub kept_where_failed : with_block (disk_of true) 0 (9 ∷ []) ≡ disk_of true
  pub words : disk_write sample 0 2 (whole_of 1 2) ≡ Undefined reason.Kind
  pub fails : fail_disk sample 0 ≡ Next one_failed
  pub fails_once : fail_disk one_failed 1 ≡ Blocked
  pub no_third : fail_disk sample 2 ≡ Blocked

pub record SliceRows : Type 0 where
  pub part : sub two_bytes 1 3 ≡ Next (record { object = 2; offset = 1; length = 2; capacity = 2 })
  pub above_the_capacity : sub two_bytes 0 4 ≡ Undefined reason.OutOfRange
  pub backwards : sub two_bytes 2 1 ≡ Undefined reason.OutOfRange
  pub of_nil : sub nil_slice 0 0 ≡ Next nil_slice
  pub spare : has_spare sample two_bytes (val.Byte 1) ≡ true
  pub spare_of_bytes_for_a_word : has_spare sample two_bytes (val.Word 1) ≡ false
  pub no_spare : has_spare sample (whole_of 2 3) (val.Byte 1) ≡ false
  pub grows : append_grow sample two_bytes (val.Byte 1) 2 ≡ Next (
    with_new sample (Cells (new_cell (val.Byte 8) ∷ new_cell (val.Byte 9) ∷ new_cell (val.Byte 1) ∷ new_cell (val.Byte 0) ∷ new_cell (val.Byte 0) ∷ [])),
    record { object = 5; offset = 0; length = 3; capacity = 5 },
  )
  pub of_a_nil_slice : append_grow sample nil_slice (val.Word 4) 0 ≡ Next (with_new sample (Cells (new_cell (val.Word 4) ∷ [])), whole_of 5 1)
  pub races : append_grow in_writes (whole_of 1 2) (val.Word 4) 0 ≡ Undefined reason.Race
  pub too_roomy : append_grow sample two_bytes (val.Byte 1) (2 ^ 63 - 3) ≡ Blocked
  pub too_long : append_grow sample (whole_of 2 (2 ^ 63 - 1)) (val.Byte 1) 0 ≡ Undefined reason.OutOfRange

pub record StoreRows : Type 0 where
  pub live : live_cells sample ≡ 8
  pub live_after_a_crash : live_cells (crashed sample) ≡ 0
  pub numbers_start_again : fresh (crashed sample) ≡ 1

pub record Rows : Type 0 where
  pub cells : CellRows
  pub maps : MapRows
  pub mutexes : MutexRows
  pub disks : DiskRows
  pub slices : SliceRows
  pub store : StoreRows
