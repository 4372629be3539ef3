-- One cell of the heap given anew.
use Rattle.std.proofs.Common.{◌≡◌, ◌≢◌, ℕ, zero, suc, ◌+◌, ◌-◌, Bool, true, false, List, [], ◌∷◌, ◌++◌, length, Option, Some, None, refl, sym, ap, ◌∙◌, inl, inr, arith}
use Rattle.std.specs.Prelude.{map, slice_get, slice_set, take, drop, nat_eq}
use Rattle.std.proofs.lemmas.Option.{slice_get_within}
use Rattle.gv_base.specs.declared.answer.Answer.{Answer}
use Rattle.gv_base.specs.declared.answer.Answer.TheVariants.{Next}
use Rattle.gv_base.specs.declared.reason.Reason.TheVariants.{NilUse, OutOfRange}
use Rattle.gv_base.specs.declared.val.Val.{Val}
use Rattle.gv_world.specs.declared.cell.Cell.{Cell}
use Rattle.gv_world.specs.Answers.{and_then, undefined_if}
use Rattle.gv_world.specs.Store as world
use Rattle.gv_world.specs.Store.{Object, Store as World, with_object}
use Rattle.gv_world.specs.Cells.{as_cells, cells_of, run, is_short, unmarked, as_written, with_mark, with_marks, overwritten, with_items, begin_write, end_write}
use Rattle.gv_resources.specs.Told.{object_at, cells_in}
use Rattle.gv_resources.proofs.Sums.{number_test}
use Rattle.gv_seats.proofs.Locals.{set_there, set_elsewhere, set_length}

-- ---- the cells of an object

-- the run of one cell
pub one_run : (cells : List Cell) (place : ℕ) (c : Cell) → slice_get cells place ≡ Some c → run cells place 1 ≡ c ∷ []
one_run [] place c e = absurd cc
one_run (d ∷ cells) zero c e = cc
one_run (d ∷ cells) (suc place) c e = one_run cells place c e

numbered : (w : World) (object n : ℕ) (is_nil : Bool) → is_nil ≡ false → object - 1 ≡ n → undefined_if is_nil NilUse (as_cells (slice_get w.objects (object - 1))) ≡ as_cells (slice_get w.objects n)
numbered w object n false e d = ap (λ k. as_cells (slice_get w.objects k)) d
numbered w object n true e d = absurd cc

pub cells_are : (w : World) (n : ℕ) → cells_of w (suc n) ≡ as_cells (slice_get w.objects n)
cells_are w n = numbered w (suc n) n (nat_eq (suc n) 0) (grind arith) (omega arith)

-- an object that has this cell
pub record HasCell (w : World) (object place : ℕ) (c : Cell) : Type 0 where
  pub index : ℕ
  pub number : object ≡ suc index
  pub cells : List Cell
  pub there : slice_get w.objects index ≡ Some (world.Cells cells)
  pub cell : slice_get cells place ≡ Some c

pub has_cell : (w : World) (object place : ℕ) (c : Cell) → slice_get (cells_in (object_at w object)) place ≡ Some c → HasCell w object place c
has_cell w zero place c e = absurd cc
has_cell w (suc n) place c e = at (slice_get w.objects n) refl e
  where
    at : (found : Option Object) → found ≡ slice_get w.objects n → slice_get (cells_in found) place ≡ Some c → HasCell w (suc n) place c
    at (Some (world.Cells cells)) is e = record { index = n; number = refl; cells = cells; there = sym is; cell = e }
    at (Some (world.Map entries marked)) is e = absurd cc
    at (Some (world.Mutex locked)) is e = absurd cc
    at None is e = absurd cc

-- ---- writes of one cell, as one item of a list given anew

marks_one : (cells : List Cell) (place : ℕ) (c : Cell) → slice_get cells place ≡ Some c → with_marks cells place 1 ≡ slice_set cells place (with_mark true c)
marks_one [] place c e = absurd cc
marks_one (d ∷ cells) zero c e = let same : d ≡ c = cc in ap (λ (x : Cell). with_mark true x ∷ cells) same
marks_one (d ∷ cells) (suc place) c e =
    let more : suc place + 1 ≡ suc (place + 1) = omega arith in
    ap (λ (n : ℕ). d ∷ (take place cells ++ map (with_mark true) (run cells place 1) ++ drop n (d ∷ cells))) more ∙ ap (λ (cs : List Cell). d ∷ cs) (marks_one cells place c e)

items_one : (cells : List Cell) (place : ℕ) (c : Cell) (v : Val) → slice_get cells place ≡ Some c
    → with_items cells place (v ∷ []) ≡ slice_set cells place (record { value = as_written c.value v; marked = false })
items_one [] place c v e = absurd cc
items_one (d ∷ cells) zero c v e = let same : d ≡ c = cc in one same cells
  where
    one : d ≡ c → (cells : List Cell) → overwritten (d ∷ cells) (v ∷ []) ≡ record { value = as_written c.value v; marked = false } ∷ cells
    one same [] = ap (λ (x : Cell). record { value = as_written x.value v; marked = false } ∷ []) same
    one same (f ∷ cells) = ap (λ (x : Cell). record { value = as_written x.value v; marked = false } ∷ f ∷ cells) same
items_one (d ∷ cells) (suc place) c v e = ap (λ (cs : List Cell). d ∷ cs) (items_one cells place c v e)

-- the world with one cell given anew
abbrev pub with_cell : World → (object place : ℕ) → List Cell → Cell → World
with_cell w object place cells c = with_object w object (world.Cells (slice_set cells place c))

found_cells : (w : World) (object place : ℕ) (c : Cell) → (h : HasCell w object place c) → cells_of w object ≡ Next h.cells
found_cells w object place c h =
    ap (cells_of w) h.number ∙ cells_are w h.index ∙ ap as_cells h.there

free_run : (cells : List Cell) (c : Cell) → cells ≡ c ∷ [] → c.marked ≡ false → unmarked cells 1 ≡ Next (c ∷ [])
free_run cells c is m = rw is (rest c.marked m)
  where
    rest : (marked : Bool) → marked ≡ false → unmarked (record { value = c.value; marked = marked } ∷ []) 1 ≡ Next (record { value = c.value; marked = marked } ∷ [])
    rest false m = refl
    rest true m = absurd cc

pub begins_cell : (w : World) (object place : ℕ) (c : Cell) (h : HasCell w object place c) → c.marked ≡ false
    → begin_write w object place 1 ≡ Next (with_cell w object place h.cells (with_mark true c))
begins_cell w object place c h free =
    ap (λ (a : Answer (List Cell)). and_then a (λ cells. and_then (unmarked (run cells place 1) 1) (λ found. Next (with_object w object (world.Cells (with_marks cells place 1)))))) (found_cells w object place c h)
    ∙ ap (λ (a : Answer (List Cell)). and_then a (λ found. Next (with_object w object (world.Cells (with_marks h.cells place 1))))) (free_run (run h.cells place 1) c (one_run h.cells place c h.cell) free)
    ∙ ap (λ (cs : List Cell). Next (with_object w object (world.Cells cs))) (marks_one h.cells place c h.cell)

whole_run : (cells : List Cell) (c : Cell) (A : Type 0) (answer : Answer A) → cells ≡ c ∷ [] → undefined_if (is_short cells 1) OutOfRange answer ≡ answer
whole_run cells c A answer is = rw is refl

pub ends_cell : (w : World) (object place : ℕ) (c : Cell) (v : Val) (h : HasCell w object place c)
    → end_write w object place (v ∷ []) ≡ Next (with_cell w object place h.cells (record { value = as_written c.value v; marked = false }))
ends_cell w object place c v h =
    ap (λ (a : Answer (List Cell)). and_then a (λ cells. undefined_if (is_short (run cells place 1) 1) OutOfRange (Next (with_object w object (world.Cells (with_items cells place (v ∷ []))))))) (found_cells w object place c h)
    ∙ whole_run (run h.cells place 1) c World (Next (with_object w object (world.Cells (with_items h.cells place (v ∷ []))))) (one_run h.cells place c h.cell)
    ∙ ap (λ (cs : List Cell). Next (with_object w object (world.Cells cs))) (items_one h.cells place c v h.cell)

-- ---- what stands in the heap after it

module _ (w : World) (object place : ℕ) (c d : Cell) (h : HasCell w object place c) where
  abbrev after : World
  after = with_cell w object place h.cells d

  at_index : (n : ℕ) → object ≡ suc n → object_at (with_object w object (world.Cells (slice_set h.cells place d))) object ≡ slice_get (slice_set w.objects n (world.Cells (slice_set h.cells place d))) n
  at_index n e = rw e (let same : suc n - 1 ≡ n = omega arith in ap (λ (k : ℕ). slice_get (slice_set w.objects k (world.Cells (slice_set h.cells place d))) n) same)

  pub object_there : object_at after object ≡ Some (world.Cells (slice_set h.cells place d))
  object_there = at_index h.index h.number ∙ set_there w.objects h.index (world.Cells (slice_set h.cells place d)) (slice_get_within w.objects h.index (world.Cells h.cells) h.there)

  pub object_before : object_at w object ≡ Some (world.Cells h.cells)
  object_before = ap (object_at w) h.number ∙ h.there

  pub object_elsewhere : (o : ℕ) → o ≢ object → object_at after o ≡ object_at w o
  object_elsewhere zero ne = refl
  object_elsewhere (suc n) ne = set_elsewhere w.objects (object - 1) n (world.Cells (slice_set h.cells place d)) (λ e. ne (let k = h.number in omega (arith, e, k)))

  pub cell_there : slice_get (cells_in (object_at after object)) place ≡ Some d
  cell_there = ap (λ x. slice_get (cells_in x) place) object_there ∙ set_there h.cells place d (slice_get_within h.cells place c h.cell)

  pub cell_elsewhere : (o i : ℕ) → (o ≡ object → i ≢ place) → slice_get (cells_in (object_at after o)) i ≡ slice_get (cells_in (object_at w o)) i
  cell_elsewhere o i ne = elim (number_test o object) [
    | inl (same, b) ↦
        ap (λ x. slice_get (cells_in (object_at after x)) i) same ∙ ap (λ x. slice_get (cells_in x) i) object_there
        ∙ set_elsewhere h.cells place i d (ne same) ∙ sym (ap (λ x. slice_get (cells_in x) i) object_before) ∙ sym (ap (λ x. slice_get (cells_in (object_at w x)) i) same)
    | inr (other, b) ↦ ap (λ x. slice_get (cells_in x) i) (object_elsewhere o other)
  ]

  -- maps and mutexes stay
  pub kept_of : {A : Type 0} (of : Option Object → A) → ((cells others : List Cell) → of (Some (world.Cells cells)) ≡ of (Some (world.Cells others))) → (o : ℕ)
      → of (object_at after o) ≡ of (object_at w o)
  kept_of of same o = elim (number_test o object) [
    | inl (e, b) ↦ ap (λ x. of (object_at after x)) e ∙ ap of object_there ∙ same (slice_set h.cells place d) h.cells ∙ sym (ap of object_before) ∙ sym (ap (λ x. of (object_at w x)) e)
    | inr (other, b) ↦ ap of (object_elsewhere o other)
  ]

  pub as_many : length after.objects ≡ length w.objects
  as_many = set_length w.objects (object - 1) (world.Cells (slice_set h.cells place d))
