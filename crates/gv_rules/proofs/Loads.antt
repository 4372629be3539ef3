-- Reading a cell that is owned or read-only.
use Rattle.std.proofs.Common.{◌≡◌, ℕ, zero, suc, ◌+◌, ◌<◌, ◌≤◌, Bool, true, false, List, [], ◌∷◌, Option, Some, None, refl, sym, ap, subst, ◌∙◌, inl, inr, arith}
use Rattle.std.specs.Prelude.{slice_get, slice_set}
use Rattle.gv_base.specs.declared.answers.Place.{Place}
use Rattle.gv_base.specs.declared.answer.Answer.{Answer}
use Rattle.gv_base.specs.declared.answer.Answer.TheVariants.{Next}
use Rattle.gv_base.specs.declared.val.Val.{Val}
use Rattle.gv_base.specs.declared.val.Val.TheVariants as stored
use Rattle.gv_terms.specs.declared.sort.Sort.{Sort}
use Rattle.gv_terms.specs.declared.sort.Sort.TheVariants as sort
use Rattle.gv_terms.specs.declared.operator.Operator.TheVariants as op
use Rattle.gv_terms.specs.declared.tree.TermTree.{TermTree}
use Rattle.gv_terms.specs.declared.value.Env.{Env}
use Rattle.gv_terms.specs.declared.value.Value.{Value}
use Rattle.gv_terms.specs.declared.value.Value.TheVariants as val
use Rattle.gv_terms.specs.Trees.{value_under}
use Rattle.gv_terms.specs.Values.{sort_of_value}
use Rattle.gv_terms.proofs.Valued.{value_apply}
use Rattle.gv_terms.proofs.ValueSorts.{values_have_sorts}
use Rattle.gv_world.specs.declared.cell.Cell.{Cell}
use Rattle.gv_world.specs.Answers.{and_then}
use Rattle.gv_world.specs.Store as world
use Rattle.gv_world.specs.Store.{Object, Store as World}
use Rattle.gv_world.specs.Cells.{as_cells, run, unmarked, as_read, first_value, read_cell}
use Rattle.gv_lang.specs.Tree.{Expr, Load, Do, Program}
use Rattle.gv_lang.specs.Todo.{Todo, Run}
use Rattle.gv_lang.specs.Threads.{Frame}
use Rattle.gv_lang.specs.Table.{sets, as_ref}
use Rattle.gv_lang.specs.Values.{value}
use Rattle.gv_lang.specs.Step.{Stepped, stepped, settled}
use Rattle.gv_resources.specs.Kinds as kind
use Rattle.gv_resources.specs.Kinds.{Kind, cell_kind}
use Rattle.gv_resources.specs.Pieces.{Resource, Have, Piece, Fits}
use Rattle.gv_resources.specs.Ghost.{Ghost}
use Rattle.gv_resources.specs.Told.{Shape, told, only_if, value_of, object_at, cells_in, in_cell}
use Rattle.gv_resources.proofs.Excluding.{excludes_law}
use Rattle.gv_assertions.specs.Atoms.{Owns}
use Rattle.gv_assertions.specs.Standing.{StandsFor, owns}
use Rattle.gv_assertions.proofs.Lists.{front, parted}
use Rattle.gv_seats.specs.Paths.{number, goes_on}
use Rattle.gv_seats.specs.Seats.{plain, is_marked, CellAt, OwnsTarget, shape_of, of_locks}
use Rattle.gv_seats.specs.Changes.{Nothing}
use Rattle.gv_seats.specs.Soundness.{Goes, goes, at_rest}
use Rattle.gv_rules.specs.Rows.{loads, IsLocalSort}
use Rattle.gv_rules.specs.Laws.{LoadsLaw}
use Rattle.gv_seats.proofs.Bases.{arrived}
use Rattle.gv_seats.proofs.Expressions.{expressions_law}
use Rattle.gv_seats.proofs.Objects.{one_run, cells_are}
use Rattle.gv_rules.proofs.Steps.{with_local, left_with, seat_set}

-- ---- what is told of a cell

pub only_if_is : {A : Type 0} (test : Bool) (x : Option A) (v : A) → only_if test x ≡ Some v → x ≡ Some v
only_if_is true x v e = e
only_if_is false x v e = absurd cc

-- a cell with this value
pub record Found (w : World) (object place : ℕ) (x : Value) : Type 0 where
  pub cell : Cell
  pub there : slice_get (cells_in (object_at w object)) place ≡ Some cell
  pub is : value_of cell.value ≡ x

one_value : (x y : Value) → Some (x ∷ []) ≡ Some (y ∷ []) → x ≡ y
one_value x y e = cc

pub found_in : (w : World) (object place : ℕ) (x : Value) (found : Option Cell) → found ≡ slice_get (cells_in (object_at w object)) place → in_cell found ≡ Some (x ∷ [])
    → Found w object place x
found_in w object place x None is e = absurd cc
found_in w object place x (Some c) is e = record { cell = c; there = sym is; is = one_value (value_of c.value) x e }

-- ---- reading

-- what a local gets of a cell whose value has a local's sort
read_plain : (v : Val) (x : Value) (s : Sort) → value_of v ≡ x → sort_of_value x ≡ Some s → IsLocalSort s → plain (as_read v) ≡ Some x
read_plain (stored.Word n) x s e h l = ap Some e
read_plain (stored.Bool b) x s e h l = ap Some e
read_plain (stored.Ref r) x s e h l = ap Some e
read_plain (stored.Slice t) x s e h l = ap Some e
read_plain (stored.Byte b) x s e h l = let d : Some sort.Bytes ≡ Some s = ap sort_of_value e ∙ h in let k : sort.Bytes ≡ s = cc in absurd (subst (λ (z : Sort). IsLocalSort z) (sym k) l)
read_plain stored.Unit x s e h l = let d : None ≡ Some s = ap sort_of_value e ∙ h in absurd cc

reads_run : (cells : List Cell) (c : Cell) → cells ≡ c ∷ [] → c.marked ≡ false → and_then (unmarked cells 1) first_value ≡ Next (as_read c.value)
reads_run cells c is m = rw is (rest c.marked m)
  where
    rest : (marked : Bool) → marked ≡ false → and_then (unmarked (record { value = c.value; marked = marked } ∷ []) 1) first_value ≡ Next (as_read c.value)
    rest false m = refl
    rest true m = absurd cc

reads : (w : World) (object place : ℕ) (c : Cell) → slice_get (cells_in (object_at w object)) place ≡ Some c → c.marked ≡ false → read_cell w object place ≡ Next (as_read c.value)
reads w zero place c there m = absurd cc
reads w (suc n) place c there m =
    ap (λ (a : Answer (List Cell)). and_then (and_then a (λ cells. unmarked (run cells place 1) 1)) first_value) (cells_are w n) ∙ at (slice_get w.objects n) there
  where
    at : (found : Option Object) → slice_get (cells_in found) place ≡ Some c
        → and_then (and_then (as_cells found) (λ cells. unmarked (run cells place 1) 1)) first_value ≡ Next (as_read c.value)
    at (Some (world.Cells cells)) there = reads_run (run cells place 1) c (one_run cells place c there) m
    at (Some (world.Map entries marked)) there = absurd cc
    at (Some (world.Mutex locked)) there = absurd cc
    at None there = absurd cc

-- ---- no write of the cell has begun

module _ (z : Shape) (w : World) (g : Ghost) (whole : Piece) (f : Fits whole (told z w g)) (object place : ℕ) where
  abbrev pub key : List Value
  key = val.Ref object ∷ val.Word place ∷ []

  -- who owns the cell, or knows it as read-only, knows that nobody else owns it
  pub nobody : (frozen : Bool) (v : List Value) (mine rest : Piece) → ((e : Resource) → mine e + rest e ≤ whole e) → 0 < mine (Have (cell_kind frozen) key v) → OwnsTarget rest (CellAt object place) → ⊥
  nobody false v mine rest parts has (inl (u, other)) = (excludes_law z w g whole f).alone kind.Cell key v u mine rest refl parts has other
  nobody true v mine rest parts has (inl (u, other)) =
      let a = parts (Have kind.FrozenCell key v) in
      let b = parts (Have kind.Cell key u) in
      (excludes_law z w g whole f).cells key u v (omega arith) (omega arith)
  nobody false v mine rest parts has (inr (u, other)) =
      let a = parts (Have kind.Cell key v) in
      let b = parts (Have kind.Item key u) in
      (excludes_law z w g whole f).one_form kind.Cell kind.Item object place place v u (inl refl) (inl refl) (omega arith) (omega arith)
  nobody true v mine rest parts has (inr (u, other)) =
      let a = parts (Have kind.FrozenCell key v) in
      let b = parts (Have kind.Item key u) in
      (excludes_law z w g whole f).one_form kind.FrozenCell kind.Item object place place v u (inr refl) (inl refl) (omega arith) (omega arith)

pub unmarked_is : (b : Bool) → (b ≡ true → ⊥) → b ≡ false
unmarked_is true never = absurd (never refl)
unmarked_is false never = refl

-- ---- x = p.f

pub as_ref_is : (v : Val) (n : ℕ) → plain v ≡ Some (val.Ref n) → v ≡ stored.Ref n
as_ref_is (stored.Ref r) n e = let same : r ≡ n = cc in ap stored.Ref same
as_ref_is (stored.Word m) n e = absurd cc
as_ref_is (stored.Bool b) n e = absurd cc
as_ref_is (stored.Slice t) n e = absurd cc
as_ref_is (stored.Byte b) n e = absurd cc
as_ref_is stored.Unit n e = absurd cc

-- a value of the sort of references
pub ref_value : (x : Value) → sort_of_value x ≡ Some sort.Ref → (n : ℕ) × (x ≡ val.Ref n)
ref_value (val.Ref n) e = (n, refl)
ref_value _ e = absurd cc

module _ (program : Program) (extra : ℕ) (w : World) (f : Frame) (below : List Frame) where
  abbrev at : Todo → Frame
  at todo = record f { todo = todo }

  load_step : (x : ℕ) (p : Expr) (of field : ℕ) (place : Place) (next : Todo) (n : ℕ) (v : Val) → f.todo ≡ Run (Do (Load x p of field) place) ∷ next
      → value f.locals p ≡ Some (stored.Ref n) → read_cell w n field ≡ Next v → stepped program extra (at_rest f below) w ≡ left_with program extra w f below x v next
  load_step x p of field place next n v is found read =
      subst (λ (todo : Todo). stepped program extra (at_rest (at todo) below) w ≡ left_with program extra w f below x v next) (sym is)
      (subst (λ (r : Option Val). and_then (and_then (as_ref r) (λ o. and_then (read_cell w o field) (λ u. sets w f.locals x u)))
      (settled (at_rest (at (Run (Do (Load x p of field) place) ∷ next)) below) w (Some next)) ≡ left_with program extra w f below x v next) (sym found)
      (subst (λ (a : Answer Val). and_then (and_then a (λ u. sets w f.locals x u)) (settled (at_rest (at (Run (Do (Load x p of field) place) ∷ next)) below) w (Some next))
      ≡ left_with program extra w f below x v next) (sym read) refl))

pub cell_key : (x y : Value) (n field : ℕ) → x ≡ val.Ref n → y ≡ val.Word field → x ∷ y ∷ [] ≡ val.Ref n ∷ val.Word field ∷ []
cell_key x y n field e d = rw (e, d) refl

pub owned_cell : {preds : List _} {env : Env} {object v : TermTree} {of field : ℕ} {p : Piece} (frozen : Bool)
    → StandsFor preds env (Owns (cell_kind frozen) (object ∷ number of ∷ number field ∷ []) (v ∷ [])) p
    → 0 < p (Have (cell_kind frozen) (value_under env object ∷ value_under env (number field) ∷ []) (value_under env v ∷ []))
owned_cell false (owns has) = has
owned_cell true (owns has) = has

pub cell_told : (z : Shape) (w : World) (g : Ghost) (frozen : Bool) (n field : ℕ) (x : Value)
    → told z w g (cell_kind frozen) (val.Ref n ∷ val.Word field ∷ []) ≡ Some (x ∷ []) → Found w n field x
cell_told z w g false n field x e = found_in w n field x _ refl (only_if_is _ _ (x ∷ []) e)
cell_told z w g true n field x e = found_in w n field x _ refl (only_if_is _ _ (x ∷ []) e)

pub loads_law : LoadsLaw
loads_law o h k (loads x p object v of field frozen left place next may todo l term object_sort s v_sort local takes) program extra w g start f below rest seat =
    let (ref, p_found, p_is) = expressions_law seat.env h.locals f.locals seat.described.locals p object sort.Ref term object_sort in
    let (n, object_is) = ref_value (value_under seat.env object) (values_have_sorts seat.env object sort.Ref object_sort) in
    let (mine, others, split, stands, left_stand) = parted (front takes seat.described.stands) in
    let xs : List Value = value_under seat.env v ∷ [] in
    let key_is : value_under seat.env object ∷ value_under seat.env (number field) ∷ [] ≡ val.Ref n ∷ val.Word field ∷ [] = cell_key (value_under seat.env object) (value_under seat.env (number field)) n field object_is (value_apply seat.env (op.Number field) []) in
    let has : 0 < mine (Have (cell_kind frozen) (val.Ref n ∷ val.Word field ∷ []) xs) = subst (λ (key : List Value). 0 < mine (Have (cell_kind frozen) key xs)) key_is (owned_cell frozen stands) in
    let whole : Piece = λ e. seat.piece e + (seat.pool e + (of_locks w seat.locks e + rest e)) in
    let within = split (Have (cell_kind frozen) (val.Ref n ∷ val.Word field ∷ []) xs) in
    let says = seat.base.fits.says (cell_kind frozen) (val.Ref n ∷ val.Word field ∷ []) xs (omega arith) in
    let found = cell_told (shape_of o) w g frozen n field (value_under seat.env v) says in
    let still = unmarked_is found.cell.marked (λ m. nobody (shape_of o) w g whole seat.base.fits n field frozen xs mine rest (λ e. let d = split e in omega arith) has
    (seat.still (CellAt n field) (ap is_marked found.there ∙ m))) in
    let read = reads w n field found.cell found.there still in
    let ref_is = as_ref_is ref n (p_is ∙ ap Some object_is) in
    let step = load_step program extra w f below x p of field place next n (as_read found.cell.value) (seat.described.todo ∙ todo) (p_found ∙ ap Some ref_is) read in
    let after = goes_on h next (slice_set h.locals x (Some v)) h.atoms in
    let now = with_local f x (as_read found.cell.value) next in
    subst (λ (answer : Answer Stepped). Goes o g start below h (after ∷ []) rest Nothing answer) (sym step)
    (goes (arrived o w g start now h after rest refl (seat_set o w g start f h rest x v (as_read found.cell.value) next seat l
    (read_plain found.cell.value (value_under seat.env v) s found.is (values_have_sorts seat.env v s v_sort) local))))
