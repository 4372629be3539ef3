-- Accesses to a store whose slices are bounded.
use Rattle.std.proofs.Common.{◌≡◌, ℕ, ◌+◌, ◌-◌, ◌^◌, ◌<◌, ◌≤◌, ◌⊎◌, inl, inr, Bool, true, false, List, [], ◌∷◌, ◌++◌, Option, Some, None, take, drop, map, replicate, refl, arith}
use Rattle.std.specs.Prelude.{not, ◌&&◌, ◌||◌, slice_get, nat_eq, nat_lt, nat_le, if◌then◌else◌}
use Rattle.std.specs.List.{list_all}
use Rattle.std.proofs.lemmas.Bool.{and_parts, and_from, and_cases, or_parts, not-false, ltb-true, ltb-false, leb-true, leb-false, le-leb, lt-ltb}
use Rattle.gv_base.specs.declared.reason.Reason.TheVariants.{NilUse, Kind, OutOfRange, Race}
use Rattle.gv_base.specs.declared.answer.Answer.{Answer}
use Rattle.gv_base.specs.declared.answer.Answer.TheVariants.{Next, Blocked}
use Rattle.gv_base.specs.declared.val.Val.{Val}
use Rattle.gv_base.specs.declared.val.Val.TheVariants as val
use Rattle.gv_base.specs.declared.slice_val.SliceVal.{SliceVal}
use Rattle.gv_world.specs.declared.cell.Cell.{Cell}
use Rattle.gv_world.specs.Answers.{and_then, undefined_if}
use Rattle.gv_world.specs.Store.{Object, Cells, Map, Mutex, Disk, Store, with_object, with_new, fresh}
use Rattle.gv_world.specs.Cells.{bytes_in, as_cells, cells_of, run, is_short, is_marked, unmarked, as_read, as_written, cells_between, first_value, read_cell, with_mark, with_marks, overwritten, with_items, begin_write, end_write, only_bytes, are_bytes, begin_bytes}
use Rattle.gv_world.specs.FiniteMaps.{map_of, map_begin, map_end, changed}
use Rattle.gv_world.specs.Mutexes.{mutex_of, lock, unlock}
use Rattle.gv_world.specs.Disks.{byte_cells, disk_with, block_of, block_read, disk_read, slice_run, whole, disk_write, with_block, with_disk, may_fail, failed_at, fail_disk}
use Rattle.gv_world.specs.Slices.{too_long, zero_like, new_cell, part_of, sub, longer, is_too_roomy, slice_cells, grown, grown_slice, append_grow}
use Rattle.gv_steps.specs.Bounds.{is_bounded_slice, is_bounded_value, are_bounded_values, is_bounded_cell, is_bounded_object, is_bounded_store}
use Rattle.gv_steps.proofs.Passing.{set_passes, both_pass, one_more_passes, take_passes, drop_passes, replicate_passes, map_passes, mapped_passes, if_there, got_passes, if_next, then_next, then_any, unless_next}

abbrev are_bounded_cells : List Cell → Bool
are_bounded_cells cells = list_all is_bounded_cell cells

-- ---- reading

as_cells_bounded : (found : Option Object) → if_there is_bounded_object found ≡ true → if_next are_bounded_cells (as_cells found) ≡ true
as_cells_bounded None h = refl
as_cells_bounded (Some (Cells cells)) h = h
as_cells_bounded (Some (Map entries marked)) h = refl
as_cells_bounded (Some (Mutex locked)) h = refl

pub cells_bounded : (s : Store) (o : ℕ) → is_bounded_store s ≡ true → if_next are_bounded_cells (cells_of s o) ≡ true
cells_bounded s o h =
    unless_next are_bounded_cells (nat_eq o 0) NilUse (as_cells (slice_get s.objects (o - 1)))
    (λ e. as_cells_bounded (slice_get s.objects (o - 1)) (got_passes is_bounded_object s.objects (o - 1) h))

unmarked_bounded : (cells : List Cell) (count : ℕ) → are_bounded_cells cells ≡ true → if_next are_bounded_cells (unmarked cells count) ≡ true
unmarked_bounded cells count h =
    unless_next are_bounded_cells (is_short cells count) OutOfRange (undefined_if (is_marked cells) Race (Next cells))
    (λ e. unless_next are_bounded_cells (is_marked cells) Race (Next cells) (λ f. h))

pub run_bounded : (cells : List Cell) (index count : ℕ) → are_bounded_cells cells ≡ true → are_bounded_cells (run cells index count) ≡ true
run_bounded cells index count h = take_passes is_bounded_cell count (drop index cells) (drop_passes is_bounded_cell index cells h)

between_bounded : (s : Store) (o i n : ℕ) → is_bounded_store s ≡ true → if_next are_bounded_cells (cells_between s o i n) ≡ true
between_bounded s o i n h =
    then_next are_bounded_cells are_bounded_cells (cells_of s o) (λ cells. unmarked (run cells i n) n) (cells_bounded s o h)
    (λ cells k. unmarked_bounded (run cells i n) n (run_bounded cells i n k))

read_bounded : (v : Val) → is_bounded_value v ≡ true → is_bounded_value (as_read v) ≡ true
read_bounded (val.Byte b) h = refl
read_bounded (val.Word n) h = refl
read_bounded (val.Bool b) h = refl
read_bounded (val.Ref r) h = refl
read_bounded (val.Slice s) h = h
read_bounded val.Unit h = refl

first_bounded : (cells : List Cell) → are_bounded_cells cells ≡ true → if_next is_bounded_value (first_value cells) ≡ true
first_bounded [] h = refl
first_bounded (c ∷ cells) h = read_bounded c.value (and_parts (is_bounded_cell c) (are_bounded_cells cells) h).0

pub read_cell_bounded : (s : Store) (o i : ℕ) → is_bounded_store s ≡ true → if_next is_bounded_value (read_cell s o i) ≡ true
read_cell_bounded s o i h =
    then_next are_bounded_cells is_bounded_value (cells_between s o i 1) first_value (between_bounded s o i 1 h) first_bounded

-- ---- writing

pub object_bounded : (s : Store) (o : ℕ) (object : Object) → is_bounded_store s ≡ true → is_bounded_object object ≡ true
    → is_bounded_store (with_object s o object) ≡ true
object_bounded s o object h k = set_passes is_bounded_object s.objects (o - 1) object h k

pub new_bounded : (s : Store) (object : Object) → is_bounded_store s ≡ true → is_bounded_object object ≡ true → is_bounded_store (with_new s object) ≡ true
new_bounded s object h k = one_more_passes is_bounded_object s.objects object h k

marks_bounded : (cells : List Cell) (i n : ℕ) → are_bounded_cells cells ≡ true → are_bounded_cells (with_marks cells i n) ≡ true
marks_bounded cells i n h =
    both_pass is_bounded_cell (take i cells ++ map (with_mark true) (run cells i n)) (drop (i + n) cells)
    (both_pass is_bounded_cell (take i cells) (map (with_mark true) (run cells i n)) (take_passes is_bounded_cell i cells h)
    (mapped_passes is_bounded_cell is_bounded_cell (with_mark true) (run cells i n) (λ c k. k) (run_bounded cells i n h)))
    (drop_passes is_bounded_cell (i + n) cells h)

written_bounded : (old v : Val) → is_bounded_value v ≡ true → is_bounded_value (as_written old v) ≡ true
written_bounded (val.Byte b) (val.Word n) h = refl
written_bounded old v h = h

overwritten_bounded : (cells : List Cell) (items : List Val) → are_bounded_cells cells ≡ true → are_bounded_values items ≡ true
    → are_bounded_cells (overwritten cells items) ≡ true
overwritten_bounded [] items h k = refl
overwritten_bounded (c ∷ cells) [] h k = h
overwritten_bounded (c ∷ cells) (v ∷ items) h k =
    let old = and_parts (is_bounded_cell c) (are_bounded_cells cells) h in
    let new = and_parts (is_bounded_value v) (are_bounded_values items) k in
    and_from (is_bounded_value (as_written c.value v)) (are_bounded_cells (overwritten cells items)) (written_bounded c.value v new.0)
    (overwritten_bounded cells items old.1 new.1)

items_bounded : (cells : List Cell) (i : ℕ) (items : List Val) → are_bounded_cells cells ≡ true → are_bounded_values items ≡ true
    → are_bounded_cells (with_items cells i items) ≡ true
items_bounded cells i items h k =
    both_pass is_bounded_cell (take i cells) (overwritten (drop i cells) items) (take_passes is_bounded_cell i cells h)
    (overwritten_bounded (drop i cells) items (drop_passes is_bounded_cell i cells h) k)

pub begin_bounded : (s : Store) (o i n : ℕ) → is_bounded_store s ≡ true → if_next is_bounded_store (begin_write s o i n) ≡ true
begin_bounded s o i n h =
    then_next are_bounded_cells is_bounded_store (cells_of s o)
    (λ cells. and_then (unmarked (run cells i n) n) (λ found. Next (with_object s o (Cells (with_marks cells i n))))) (cells_bounded s o h)
    (λ cells k. then_any is_bounded_store (unmarked (run cells i n) n) (λ found. Next (with_object s o (Cells (with_marks cells i n))))
    (λ found. object_bounded s o (Cells (with_marks cells i n)) h (marks_bounded cells i n k)))

pub end_bounded : (s : Store) (o i : ℕ) (items : List Val) → is_bounded_store s ≡ true → are_bounded_values items ≡ true
    → if_next is_bounded_store (end_write s o i items) ≡ true
end_bounded s o i items h k =
    then_next are_bounded_cells is_bounded_store (cells_of s o) _ (cells_bounded s o h)
    (λ cells b. unless_next is_bounded_store _ OutOfRange (Next (with_object s o (Cells (with_items cells i items))))
    (λ e. object_bounded s o (Cells (with_items cells i items)) h (items_bounded cells i items b k)))

pub begin_bytes_bounded : (s : Store) (o i n : ℕ) → is_bounded_store s ≡ true → if_next is_bounded_store (begin_bytes s o i n) ≡ true
begin_bytes_bounded s o i n h =
    then_any is_bounded_store (cells_of s o) (λ cells. only_bytes (run cells i n) (begin_write s o i n))
    (λ cells. unless_next is_bounded_store (not (are_bytes (run cells i n))) Kind (begin_write s o i n) (λ e. begin_bounded s o i n h))

-- ---- maps and mutexes hold no slice

pub map_begin_bounded : (s : Store) (o : ℕ) → is_bounded_store s ≡ true → if_next is_bounded_store (map_begin s o) ≡ true
map_begin_bounded s o h =
    then_any is_bounded_store (map_of s o) (λ m. undefined_if m.1 Race (Next (with_object s o (Map m.0 true))))
    (λ m. unless_next is_bounded_store m.1 Race (Next (with_object s o (Map m.0 true))) (λ e. object_bounded s o (Map m.0 true) h refl))

pub map_end_bounded : (s : Store) (o key : ℕ) (item : Option ℕ) → is_bounded_store s ≡ true → if_next is_bounded_store (map_end s o key item) ≡ true
map_end_bounded s o key item h =
    then_any is_bounded_store (map_of s o) (λ m. Next (with_object s o (Map (changed m.0 key item) false)))
    (λ m. object_bounded s o (Map (changed m.0 key item) false) h refl)

lock_bounded_by : (s : Store) (o : ℕ) (locked : Bool) → is_bounded_store s ≡ true
    → if_next is_bounded_store (if locked then Blocked else Next (with_object s o (Mutex true))) ≡ true
lock_bounded_by s o true h = refl
lock_bounded_by s o false h = object_bounded s o (Mutex true) h refl

pub lock_bounded : (s : Store) (o : ℕ) → is_bounded_store s ≡ true → if_next is_bounded_store (lock s o) ≡ true
lock_bounded s o h = then_any is_bounded_store (mutex_of s o) _ (λ locked. lock_bounded_by s o locked h)

pub unlock_bounded : (s : Store) (o : ℕ) → is_bounded_store s ≡ true → if_next is_bounded_store (unlock s o) ≡ true
unlock_bounded s o h =
    then_any is_bounded_store (mutex_of s o) _
    (λ locked. unless_next is_bounded_store (not locked) _ (Next (with_object s o (Mutex false))) (λ e. object_bounded s o (Mutex false) h refl))

-- ---- disks

abbrev pub is_first_bounded : {A : Type 0} → Store × A → Bool
is_first_bounded pair = is_bounded_store pair.0

block_read_bounded : (s : Store) (disk : Disk) (failed : Bool) (block : List ℕ) → is_bounded_store s ≡ true
    → if_next is_first_bounded (if failed then Next (s, None) else Next (with_new s (Cells (byte_cells block)), Some (fresh s))) ≡ true
block_read_bounded s disk true block h = h
block_read_bounded s disk false block h =
    new_bounded s (Cells (byte_cells block)) h (map_passes is_bounded_cell (λ b. record { value = val.Byte b; marked = false }) block (λ b. refl))

found_block_bounded : (s : Store) (disk : Disk) (found : Option (List ℕ)) → is_bounded_store s ≡ true
    → if_next is_first_bounded (block_read s disk found) ≡ true
found_block_bounded s disk None h = refl
found_block_bounded s disk (Some block) h = block_read_bounded s disk disk.failed block h

pub disk_read_bounded : (s : Store) (d a : ℕ) → is_bounded_store s ≡ true → if_next is_first_bounded (disk_read s d a) ≡ true
disk_read_bounded s d a h =
    then_any is_first_bounded (disk_with s d a) (λ disk. block_read s disk (block_of disk a)) (λ disk. found_block_bounded s disk (block_of disk a) h)

pub disk_write_bounded : (s : Store) (d a : ℕ) (slice : SliceVal) → is_bounded_store s ≡ true → if_next is_bounded_store (disk_write s d a slice) ≡ true
disk_write_bounded s d a slice h =
    then_any is_bounded_store (slice_run s slice) (λ found. only_bytes found (written found))
    (λ found. unless_next is_bounded_store (not (are_bytes found)) Kind (written found)
    (λ e. then_any is_bounded_store (disk_with s d a) (λ disk. put found disk)
    (λ disk. then_any is_bounded_store (whole found slice) (λ cells. Next (with_disk s d (with_block disk a (bytes_in cells)))) (λ cells. h))))
  where
    put : List Cell → Disk → Answer Store
    put found disk = and_then (whole found slice) (λ cells. Next (with_disk s d (with_block disk a (bytes_in cells))))

    written : List Cell → Answer Store
    written found = and_then (disk_with s d a) (λ disk. put found disk)

failed_bounded : (s : Store) (d : ℕ) (found : Option Disk) → is_bounded_store s ≡ true → is_bounded_store (failed_at s d found) ≡ true
failed_bounded s d None h = h
failed_bounded s d (Some disk) h = h

fail_bounded_by : (s after : Store) (may : Bool) → is_bounded_store after ≡ true → if_next is_bounded_store (if may then Next after else Blocked) ≡ true
fail_bounded_by s after true h = h
fail_bounded_by s after false h = refl

pub fail_bounded : (s : Store) (d : ℕ) → is_bounded_store s ≡ true → if_next is_bounded_store (fail_disk s d) ≡ true
fail_bounded s d h = fail_bounded_by s _ (may_fail s d) (failed_bounded s d (slice_get s.disks d) h)

-- ---- slices

-- what the tests of a slice mean, and back
pub slice_within : (s : SliceVal) → is_bounded_slice s ≡ true → (s.length ≤ s.capacity) × (s.offset + s.capacity < 2 ^ 63)
slice_within s h =
    let parts = and_parts (nat_le s.length s.capacity) (nat_lt (s.offset + s.capacity) too_long) h in
    (leb-true s.length s.capacity parts.0, ltb-true (s.offset + s.capacity) too_long parts.1)

pub slice_from : (s : SliceVal) → s.length ≤ s.capacity → s.offset + s.capacity < 2 ^ 63 → is_bounded_slice s ≡ true
slice_from s h k = and_from _ _ (le-leb s.length s.capacity h) (lt-ltb (s.offset + s.capacity) too_long k)

pub sub_bounded : (s : SliceVal) (a b : ℕ) → is_bounded_slice s ≡ true → if_next is_bounded_slice (sub s a b) ≡ true
sub_bounded s a b h =
    unless_next is_bounded_slice (not (nat_le a b) || not (nat_le b s.capacity)) OutOfRange (Next (part_of s a b))
    (λ e.
    let parts = or_parts (not (nat_le a b)) (not (nat_le b s.capacity)) e in
    let first = leb-true a b (not-false (nat_le a b) parts.0) in
    let last = leb-true b s.capacity (not-false (nat_le b s.capacity) parts.1) in
    let before = slice_within s h in
    slice_from (part_of s a b) (omega (arith, before.0, before.1)) (omega (arith, before.0, before.1)))

pub longer_bounded : (s : SliceVal) → is_bounded_slice s ≡ true → nat_lt s.length s.capacity ≡ true → is_bounded_slice (longer s) ≡ true
longer_bounded s h room =
    let before = slice_within s h in
    let less = ltb-true s.length s.capacity room in
    slice_from (longer s) (omega (arith, less)) before.1

zero_bounded : (v : Val) → is_bounded_value (zero_like v) ≡ true
zero_bounded (val.Word n) = refl
zero_bounded (val.Byte b) = refl
zero_bounded (val.Bool b) = refl
zero_bounded (val.Ref r) = refl
zero_bounded (val.Slice s) = refl
zero_bounded val.Unit = refl

grown_bounded : (cells : List Cell) (item : Val) (extra : ℕ) → are_bounded_cells cells ≡ true → is_bounded_value item ≡ true
    → are_bounded_cells (grown cells item extra) ≡ true
grown_bounded cells item extra h k =
    both_pass is_bounded_cell (map (λ c. new_cell c.value) cells) (new_cell item ∷ replicate extra (new_cell (zero_like item)))
    (mapped_passes is_bounded_cell is_bounded_cell (λ c. new_cell c.value) cells (λ c e. e) h)
    (and_from _ _ k (replicate_passes is_bounded_cell extra (new_cell (zero_like item)) (zero_bounded item)))

abbrev pub is_bounded_growth : Store × SliceVal → Bool
is_bounded_growth pair = is_bounded_store pair.0 && is_bounded_slice pair.1

slice_cells_bounded : (s : Store) (slice : SliceVal) (empty : Bool) → is_bounded_store s ≡ true
    → if_next are_bounded_cells (if empty then Next [] else cells_between s slice.object slice.offset slice.length) ≡ true
slice_cells_bounded s slice true h = refl
slice_cells_bounded s slice false h = between_bounded s slice.object slice.offset slice.length h

room_bounded : (s : Store) (slice : SliceVal) (extra : ℕ) → is_too_roomy slice extra ≡ false → nat_le too_long (slice.length + 1) ≡ false
    → is_bounded_slice (grown_slice s slice extra) ≡ true
room_bounded s slice extra e f =
    let less = leb-false too_long (slice.length + 1) f in
    let fits = and_cases _ _ e in
    slice_from (grown_slice s slice extra) (omega arith) (room_in fits less)
  where
    room_in : ((nat_lt (slice.length + 1) too_long ≡ false) ⊎ (nat_le too_long (slice.length + 1 + extra) ≡ false)) → slice.length + 1 < 2 ^ 63
        → 0 + (slice.length + 1 + extra) < 2 ^ 63
    room_in (inl past) less = absurd (omega (arith, ltb-false (slice.length + 1) too_long past))
    room_in (inr fits) less = omega (arith, leb-false too_long (slice.length + 1 + extra) fits)

append_bounded_by : (s : Store) (slice : SliceVal) (item : Val) (extra : ℕ) (roomy : Bool) → is_bounded_store s ≡ true → is_bounded_value item ≡ true
    → is_too_roomy slice extra ≡ roomy
    → if_next is_bounded_growth (if roomy then Blocked else undefined_if (nat_le too_long (slice.length + 1)) OutOfRange
    (and_then (slice_cells s slice) (λ cells. Next (with_new s (Cells (grown cells item extra)), grown_slice s slice extra)))) ≡ true
append_bounded_by s slice item extra true h k e = refl
append_bounded_by s slice item extra false h k e =
    unless_next is_bounded_growth (nat_le too_long (slice.length + 1)) OutOfRange _
    (λ f. then_next are_bounded_cells is_bounded_growth (slice_cells s slice) _ (slice_cells_bounded s slice (nat_eq slice.length 0) h)
    (λ cells b. and_from _ _ (new_bounded s (Cells (grown cells item extra)) h (grown_bounded cells item extra b k)) (room_bounded s slice extra e f)))

pub append_grow_bounded : (s : Store) (slice : SliceVal) (item : Val) (extra : ℕ) → is_bounded_store s ≡ true → is_bounded_value item ≡ true
    → if_next is_bounded_growth (append_grow s slice item extra) ≡ true
append_grow_bounded s slice item extra h k = append_bounded_by s slice item extra (is_too_roomy slice extra) h k refl
