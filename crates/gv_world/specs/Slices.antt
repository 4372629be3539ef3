-- Slices with capacity: parts of a slice, and appending. The cells of a slice begin at its offset, as many as its
-- length; its spare cells follow, up to its capacity.
use Rattle.std.specs.Prelude.{ℕ, ◌+◌, ◌-◌, ◌^◌, Bool, true, false, not, ◌&&◌, ◌||◌, List, [], ◌∷◌, ◌++◌, map, replicate, nat_eq, nat_lt, nat_le, if◌then◌else◌}
use Rattle.gv_base.specs.declared.reason.Reason.TheVariants.{OutOfRange}
use Rattle.gv_base.specs.declared.answer.Answer.{Answer}
use Rattle.gv_base.specs.declared.answer.Answer.TheVariants.{Next, Blocked}
use Rattle.gv_base.specs.declared.val.Val.{Val}
use Rattle.gv_base.specs.declared.val.Val.TheVariants as val
use Rattle.gv_base.specs.declared.slice_val.SliceVal.{SliceVal}
use Rattle.gv_world.specs.declared.cell.Cell.{Cell}
use Rattle.gv_world.specs.Answers.{and_then, undefined_if}
use Rattle.gv_world.specs.Store.{Cells, Store, fresh, with_new}
use Rattle.gv_world.specs.Cells.{cells_between, is_byte, byte_in}

-- one more than the greatest length of a slice
abbrev pub too_long : ℕ
too_long = 2 ^ 63

abbrev pub nil_slice : SliceVal
nil_slice = record { object = 0; offset = 0; length = 0; capacity = 0 }

-- a slice that is all of an object of so many cells
abbrev pub whole_of : (object count : ℕ) → SliceVal
whole_of object count = record { object = object; offset = 0; length = count; capacity = count }

-- the zero of a value's kind
abbrev pub zero_like : Val → Val
zero_like (val.Word n) = val.Word 0
zero_like (val.Byte b) = val.Byte 0
zero_like (val.Bool b) = val.Bool false
zero_like (val.Ref r) = val.Ref 0
zero_like (val.Slice s) = val.Slice nil_slice
zero_like val.Unit = val.Unit

abbrev pub new_cell : Val → Cell
new_cell v = record { value = v; marked = false }

-- ---- parts of a slice

-- from a on and before b, with what is left of the capacity
abbrev pub part_of : SliceVal → (a b : ℕ) → SliceVal
part_of s a b = record { object = s.object; offset = s.offset + a; length = b - a; capacity = s.capacity - a }

-- b may be up to the capacity
abbrev pub sub : SliceVal → (a b : ℕ) → Answer SliceVal
sub s a b = undefined_if (not (nat_le a b) || not (nat_le b s.capacity)) OutOfRange (Next (part_of s a b))

-- ---- appending

abbrev pub same_truth : Bool → Bool → Bool
same_truth true b = b
same_truth false b = not b

-- the place of the first spare cell in its object
abbrev pub spare_place : SliceVal → ℕ
spare_place s = s.offset + s.length

-- whether an append of the item writes into a spare cell: there is one, and it holds a byte exactly where the
-- item is one
abbrev pub has_spare : Store → SliceVal → Val → Bool
has_spare world s item = nat_lt s.length s.capacity && same_truth (is_byte world s.object (spare_place s)) (byte_in item)

-- the slice with one of its spare cells
abbrev pub longer : SliceVal → SliceVal
longer s = record s { length = s.length + 1 }

-- an append without a spare cell isn't possible where the room that it is to make would be too much, unless
-- no item can be appended whatever the room
abbrev pub is_too_roomy : SliceVal → ℕ → Bool
is_too_roomy s extra = nat_lt (s.length + 1) too_long && nat_le too_long (s.length + 1 + extra)

-- a slice's cells for reading; a slice without cells reads none, whatever its object
abbrev pub slice_cells : Store → SliceVal → Answer (List Cell)
slice_cells world s = if nat_eq s.length 0 then Next [] else cells_between world s.object s.offset s.length

-- the cells with their values, the item, and so many zeros
abbrev pub grown : List Cell → Val → ℕ → List Cell
grown cells item extra = map (λ c. new_cell c.value) cells ++ new_cell item ∷ replicate extra (new_cell (zero_like item))

-- the fresh slice of an append without a spare cell, which is in one access; all its room is its capacity
abbrev pub grown_slice : Store → SliceVal → ℕ → SliceVal
grown_slice world s extra = record { object = fresh world; offset = 0; length = s.length + 1; capacity = s.length + 1 + extra }

abbrev pub append_grow : Store → SliceVal → Val → ℕ → Answer (Store × SliceVal)
append_grow world s item extra =
    if is_too_roomy s extra
    then Blocked
    else undefined_if (nat_le too_long (s.length + 1)) OutOfRange
    (and_then (slice_cells world s) (λ cells.
    Next (with_new world (Cells (grown cells item extra)), grown_slice world s extra)))
