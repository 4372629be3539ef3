-- Reading the cells of a slice that is owned.
use Rattle.std.proofs.Common.{◌≡◌, ℕ, suc, ◌+◌, ◌<◌, ◌≤◌, Bool, false, ◌||◌, nat_eq, nat_lt, if◌then◌else◌, List, [], ◌∷◌, map, length, take, Option, Some, refl, sym, ap, subst, ◌∙◌, inl, inr, arith}
use Rattle.std.specs.Prelude.{slice_get}
use Rattle.gv_base.specs.declared.answer.Answer.{Answer}
use Rattle.gv_base.specs.declared.answer.Answer.TheVariants.{Next}
use Rattle.gv_base.specs.declared.reason.Reason.TheVariants.{OutOfRange, Race}
use Rattle.gv_base.specs.declared.slice_val.SliceVal.{SliceVal}
use Rattle.gv_terms.specs.declared.value.Value.{Value}
use Rattle.gv_world.specs.declared.cell.Cell.{Cell}
use Rattle.gv_world.specs.Answers.{and_then, undefined_if}
use Rattle.gv_world.specs.Store.{Store as World}
use Rattle.gv_world.specs.Cells.{as_cells, cells_of, run, is_short, is_marked, unmarked, cells_between}
use Rattle.gv_world.specs.Slices.{slice_cells}
use Rattle.gv_resources.specs.Kinds as kind
use Rattle.gv_resources.specs.Pieces.{Resource, Piece, Fits}
use Rattle.gv_resources.specs.Ghost.{Ghost}
use Rattle.gv_resources.specs.Told.{Shape, told, value_of, object_at, cells_in}
use Rattle.gv_resources.proofs.Sums.{number_test, below_test}
use Rattle.gv_assertions.specs.Standing.{OwnsItems, cell_key}
use Rattle.gv_seats.specs.Seats.{CellAt, AreOwned}
use Rattle.gv_seats.specs.Seats.{is_marked as cell_marked}
use Rattle.gv_seats.proofs.Objects.{has_cell, cells_are}
use Rattle.gv_rules.proofs.Loads.{unmarked_is}
use Rattle.gv_slicing.proofs.Lists.{drop_there}
use Rattle.gv_slicing.proofs.Owned.{owns_item, item_told, not_mine}
use Rattle.gv_putting.proofs.Cells.{cell}

-- a cell with this value, of which no write has begun
pub record Free (found : Option Cell) (x : Value) : Type 0 where
  pub cell : Cell
  pub there : found ≡ Some cell
  pub is : value_of cell.value ≡ x
  pub unmarked : cell.marked ≡ false

abbrev pub values_in : List Cell → List Value
values_in cells = map (λ c. value_of c.value) cells

-- ---- a run of cells

record RunIs (cells : List Cell) (off : ℕ) (items : List Value) : Type 0 where
  pub long : length (run cells off (length items)) ≡ length items
  pub free : is_marked (run cells off (length items)) ≡ false
  pub values : values_in (run cells off (length items)) ≡ items

run_is : (cells : List Cell) (off : ℕ) (items : List Value) → ((i : ℕ) (x : Value) → slice_get items i ≡ Some x → Free (slice_get cells (off + i)) x) → RunIs cells off items
run_is cells off [] each = record { long = refl; free = refl; values = refl }
run_is cells off (x ∷ items) each =
    let first = each 0 x refl in
    let there : slice_get cells off ≡ Some first.cell = subst (λ (n : ℕ). slice_get cells n ≡ Some first.cell) (omega arith) first.there in
    let rest = run_is cells (suc off) items (λ i y e. subst (λ (n : ℕ). Free (slice_get cells n) y) (omega arith) (each (suc i) y e)) in
    let same : run cells off (suc (length items)) ≡ first.cell ∷ run cells (suc off) (length items) = ap (λ (cs : List Cell). take (suc (length items)) cs) (drop_there cells off first.cell there) in
    record {
      long = ap (λ (cs : List Cell). length cs) same ∙ ap suc rest.long;
      free = ap (λ (cs : List Cell). is_marked cs) same ∙ ap (λ (b : Bool). b || is_marked (run cells (suc off) (length items))) first.unmarked ∙ rest.free;
      values = ap values_in same ∙ ap (λ (v : Value). v ∷ values_in (run cells (suc off) (length items))) first.is ∙ ap (λ (vs : List Value). x ∷ vs) rest.values;
    }

-- ---- a slice

pub record Read (w : World) (s : SliceVal) (items : List Value) : Type 0 where
  pub cells : List Cell
  pub is : slice_cells w s ≡ Next cells
  pub values : values_in cells ≡ items

whole_run : (cells : List Cell) (n : ℕ) → length cells ≡ n → is_marked cells ≡ false → unmarked cells n ≡ Next cells
whole_run cells n long free =
    let short : is_short cells n ≡ false = ap (λ (k : ℕ). nat_lt k n) long ∙ elim (below_test n n) [ inl (l, t) ↦ absurd (omega arith) | inr (l, t) ↦ t ] in
    ap (λ (b : Bool). undefined_if b OutOfRange (undefined_if (is_marked cells) Race (Next cells))) short ∙ ap (λ (b : Bool). undefined_if b Race (Next cells)) free

pub reads : (w : World) (s : SliceVal) (items : List Value) → length items ≡ s.length
    → ((i : ℕ) (x : Value) → slice_get items i ≡ Some x → Free (slice_get (cells_in (object_at w s.object)) (s.offset + i)) x) → Read w s items
reads w s [] long each = record {
  cells = [];
  is = elim (number_test s.length 0) [
    | inl (e, t) ↦ ap (λ (b : Bool). if b then Next [] else cells_between w s.object s.offset s.length) t
    | inr (ne, t) ↦ absurd (ne (sym long))
  ];
  values = refl;
}
reads w s (x ∷ items) long each =
    let first = each 0 x refl in
    let h = has_cell w s.object (s.offset + 0) first.cell first.there in
    let before : cells_in (object_at w s.object) ≡ h.cells = ap cells_in (ap (object_at w) h.number ∙ h.there) in
    let r = run_is h.cells s.offset (x ∷ items) (λ i y e. subst (λ (cs : List Cell). Free (slice_get cs (s.offset + i)) y) before (each i y e)) in
    let n : ℕ = length (x ∷ items) in
    let some : nat_eq s.length 0 ≡ false = elim (number_test s.length 0) [ inl (e, t) ↦ absurd (omega (arith, e, long)) | inr (ne, t) ↦ t ] in
    record {
      cells = run h.cells s.offset n;
      is = ap (λ (b : Bool). if b then Next [] else cells_between w s.object s.offset s.length) some ∙ ap (λ (k : ℕ). cells_between w s.object s.offset k) (sym long)
          ∙ ap (λ (a : Answer (List Cell)). and_then a (λ cells. unmarked (run cells s.offset n) n)) (ap (cells_of w) h.number ∙ cells_are w h.index ∙ ap as_cells h.there)
          ∙ whole_run (run h.cells s.offset n) n r.long r.free;
      values = r.values;
    }

-- ---- cells that are owned

module _ (z : Shape) (w : World) (g : Ghost) (all : Piece) (f : Fits all (told z w g)) (s : SliceVal) (mine rest : Piece) (parts : (e : Resource) → mine e + rest e ≤ all e)
    (still : AreOwned w rest) where
  -- nobody else writes one
  pub free_cell : (place : ℕ) (x : Value) → 0 < mine (cell s place x) → Free (slice_get (cells_in (object_at w s.object)) (s.offset + place)) x
  free_cell place x has =
      let within = parts (cell s place x) in
      let found = item_told z w g false s.object (s.offset + place) x (f.says kind.Item (cell_key s place) (x ∷ []) (omega arith)) in
      record {
        cell = found.cell;
        there = found.there;
        is = found.is;
        unmarked = unmarked_is found.cell.marked (λ marked. not_mine z w g all f false s.object (s.offset + place) (x ∷ []) mine rest parts false has
            (still (CellAt s.object (s.offset + place)) (ap cell_marked found.there ∙ marked)));
      }

  pub free_items : (items : List Value) → OwnsItems kind.Item s 0 items mine → (i : ℕ) (x : Value) → slice_get items i ≡ Some x → Free (slice_get (cells_in (object_at w s.object)) (s.offset + i)) x
  free_items items h i x e = free_cell i x (subst (λ (n : ℕ). 0 < mine (cell s n x)) (omega arith) (owns_item kind.Item s 0 items mine i x h e))
