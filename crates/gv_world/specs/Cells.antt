-- Reading and writing cells. A write is two accesses: its beginning marks the cells, and its end writes and
-- unmarks them. Whatever meets a mark between the two races.
use Rattle.std.specs.Prelude.{ℕ, ◌+◌, ◌-◌, ◌%◌, Bool, true, false, List, [], ◌∷◌, ◌++◌, Option, Some, None, map, length, take, drop, slice_get, nat_eq, nat_lt, not, ◌&&◌}
use Rattle.std.specs.List.{list_all, list_any}
use Rattle.gv_base.specs.declared.reason.Reason.TheVariants.{NilUse, Kind, OutOfRange, Race}
use Rattle.gv_base.specs.declared.answer.Answer.{Answer}
use Rattle.gv_base.specs.declared.answer.Answer.TheVariants.{Next, Undefined}
use Rattle.gv_base.specs.declared.val.Val.{Val}
use Rattle.gv_base.specs.declared.val.Val.TheVariants as val
use Rattle.gv_world.specs.declared.cell.Cell.{Cell}
use Rattle.gv_world.specs.Answers.{and_then, undefined_if}
use Rattle.gv_world.specs.Store.{Object, Cells, Map, Mutex, Store, with_object}

abbrev pub as_cells : Option Object → Answer (List Cell)
as_cells (Some (Cells cells)) = Next cells
as_cells (Some (Map entries marked)) = Undefined Kind
as_cells (Some (Mutex locked)) = Undefined Kind
as_cells None = Undefined Kind

-- the cells of the object under a number
abbrev pub cells_of : Store → ℕ → Answer (List Cell)
cells_of s object = undefined_if (nat_eq object 0) NilUse (as_cells (slice_get s.objects (object - 1)))

-- so many cells from a place on, or as many of them as there are
abbrev pub run : List Cell → (index count : ℕ) → List Cell
run cells index count = take count (drop index cells)

abbrev pub is_short : List Cell → ℕ → Bool
is_short cells count = nat_lt (length cells) count

abbrev pub is_marked : List Cell → Bool
is_marked cells = list_any (λ c. c.marked) cells

-- the cells again, where there are as many as wanted and no write of one has begun
abbrev pub unmarked : List Cell → ℕ → Answer (List Cell)
unmarked cells count = undefined_if (is_short cells count) OutOfRange (undefined_if (is_marked cells) Race (Next cells))

-- ---- values in cells: a byte stands as a byte in its cell alone, and as a word everywhere else

-- what a cell gives
abbrev pub as_read : Val → Val
as_read (val.Byte b) = val.Word b
as_read v = v

-- what a cell with the first value holds after a write of the second
abbrev pub as_written : Val → Val → Val
as_written (val.Byte b) (val.Word n) = val.Byte (n % 256)
as_written old v = v

-- ---- reading

-- so many cells of an object from a place on, none of them in a write
abbrev pub cells_between : Store → (object index count : ℕ) → Answer (List Cell)
cells_between s object index count = and_then (cells_of s object) (λ cells. unmarked (run cells index count) count)

abbrev pub first_value : List Cell → Answer Val
first_value [] = Undefined OutOfRange
first_value (c ∷ cells) = Next (as_read c.value)

abbrev pub read_cell : Store → (object index : ℕ) → Answer Val
read_cell s object index = and_then (cells_between s object index 1) first_value

-- ---- writing

abbrev pub with_mark : Bool → Cell → Cell
with_mark marked c = record c { marked = marked }

-- the cells, some of them with their marks set
abbrev pub with_marks : List Cell → (index count : ℕ) → List Cell
with_marks cells index count = take index cells ++ map (with_mark true) (run cells index count) ++ drop (index + count) cells

-- the first cells with these items, and unmarked
abbrev pub overwritten : List Cell → List Val → List Cell
overwritten [] items = []
overwritten (c ∷ cells) [] = c ∷ cells
overwritten (c ∷ cells) (v ∷ items) = record { value = as_written c.value v; marked = false } ∷ overwritten cells items

abbrev pub with_items : List Cell → ℕ → List Val → List Cell
with_items cells index items = take index cells ++ overwritten (drop index cells) items

-- marks the cells, which keep their values
abbrev pub begin_write : Store → (object index count : ℕ) → Answer Store
begin_write s object index count =
    and_then (cells_of s object) (λ cells.
    and_then (unmarked (run cells index count) count) (λ found.
    Next (with_object s object (Cells (with_marks cells index count)))))

-- writes the items into cells that are marked, and unmarks these; a mark is no reason here
abbrev pub end_write : Store → (object index : ℕ) → List Val → Answer Store
end_write s object index items =
    and_then (cells_of s object) (λ cells.
    undefined_if (is_short (run cells index (length items)) (length items)) OutOfRange
    (Next (with_object s object (Cells (with_items cells index items)))))

-- ---- cells that hold bytes

abbrev pub byte_in : Val → Bool
byte_in (val.Byte b) = true
byte_in v = false

abbrev pub are_bytes : List Cell → Bool
are_bytes cells = list_all (λ c. byte_in c.value) cells

abbrev pub byte_at : Answer (List Cell) → ℕ → Bool
byte_at (Next cells) index = nat_eq (length (run cells index 1)) 1 && are_bytes (run cells index 1)
byte_at other index = false

-- whether there is a cell at the place and it holds a byte, marked or not
abbrev pub is_byte : Store → (object index : ℕ) → Bool
is_byte s object index = byte_at (cells_of s object) index

-- the byte that stands in a cell of bytes
abbrev pub byte_of : Val → ℕ
byte_of (val.Byte b) = b
byte_of v = 0

abbrev pub bytes_in : List Cell → List ℕ
bytes_in cells = map (λ c. byte_of c.value) cells

-- of cells that are to hold bytes it is tested first that they do, as far as there are such
abbrev pub only_bytes : {A : Type 0} → List Cell → Answer A → Answer A
only_bytes cells answer = undefined_if (not (are_bytes cells)) Kind answer

-- so many bytes of an object from a place on
abbrev pub read_bytes : Store → (object index count : ℕ) → Answer (List ℕ)
read_bytes s object index count =
    and_then (cells_of s object) (λ cells.
    only_bytes (run cells index count)
    (and_then (unmarked (run cells index count) count) (λ found. Next (bytes_in found))))

-- as `begin_write`, of cells that are to hold bytes
abbrev pub begin_bytes : Store → (object index count : ℕ) → Answer Store
begin_bytes s object index count =
    and_then (cells_of s object) (λ cells.
    only_bytes (run cells index count)
    (begin_write s object index count))
