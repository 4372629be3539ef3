-- Reading an item of a slice that is owned or read-only.
use Rattle.std.proofs.Common.{◌≡◌, ℕ, zero, suc, ◌+◌, ◌<◌, Bool, true, false, not, nat_lt, List, [], ◌∷◌, map, length, Option, Some, refl, sym, ap, subst, ◌∙◌, inl, inr, arith}
use Rattle.std.specs.Prelude.{slice_get, slice_set, slice_index_or}
use Rattle.gv_base.specs.declared.answers.Place.{Place}
use Rattle.gv_base.specs.declared.answer.Answer.{Answer}
use Rattle.gv_base.specs.declared.answer.Answer.TheVariants.{Next}
use Rattle.gv_base.specs.declared.reason.Reason.TheVariants.{OutOfRange}
use Rattle.gv_base.specs.declared.val.Val.{Val}
use Rattle.gv_base.specs.declared.val.Val.TheVariants as stored
use Rattle.gv_base.specs.declared.slice_val.SliceVal.{SliceVal}
use Rattle.gv_terms.specs.declared.sort.Sort.TheVariants as sort
use Rattle.gv_terms.specs.declared.operator.Operator.TheVariants as op
use Rattle.gv_terms.specs.declared.tree.TermTree.{TermTree}
use Rattle.gv_terms.specs.declared.tree.TermTree.TheVariants as tree
use Rattle.gv_terms.specs.declared.value.Env.{Env}
use Rattle.gv_terms.specs.declared.value.Value.{Value}
use Rattle.gv_terms.specs.declared.value.Value.TheVariants as val
use Rattle.gv_terms.specs.Meaning.{operate}
use Rattle.gv_terms.specs.Trees.{value_under}
use Rattle.gv_terms.specs.Values.{slice_of}
use Rattle.gv_terms.proofs.Valued.{value_apply}
use Rattle.gv_terms.proofs.ValueSorts.{values_have_sorts}
use Rattle.gv_world.specs.declared.cell.Cell.{Cell}
use Rattle.gv_world.specs.Answers.{and_then, undefined_if}
use Rattle.gv_world.specs.Store.{Store as World}
use Rattle.gv_world.specs.Cells.{as_cells, cells_of, run, unmarked, as_read, first_value, read_cell}
use Rattle.gv_lang.specs.Tree.{Expr, At, Do, Program}
use Rattle.gv_lang.specs.Todo.{Todo, Run}
use Rattle.gv_lang.specs.Threads.{Frame}
use Rattle.gv_lang.specs.Table.{as_word, as_slice, sets, with_item, is_within}
use Rattle.gv_lang.specs.Values.{value}
use Rattle.gv_lang.specs.Step.{Stepped, stepped, settled}
use Rattle.gv_resources.specs.Kinds.{item_kind}
use Rattle.gv_resources.specs.Pieces.{Have, Piece}
use Rattle.gv_resources.specs.Told.{value_of, object_at, cells_in}
use Rattle.gv_resources.proofs.Sums.{below_test}
use Rattle.gv_assertions.specs.Atoms.{Slice, Predicate}
use Rattle.gv_assertions.specs.Standing.{StandsFor, slice, items_of, OwnsSlice, cell_key, IsTrueUnder}
use Rattle.gv_assertions.proofs.Lists.{front, parted}
use Rattle.gv_seats.specs.Paths.{goes_on}
use Rattle.gv_seats.specs.Seats.{plain, shape_of, CellAt, of_locks}
use Rattle.gv_seats.specs.Seats.{is_marked as cell_marked}
use Rattle.gv_seats.specs.Changes.{Nothing}
use Rattle.gv_seats.specs.Soundness.{Goes, goes, at_rest}
use Rattle.gv_seats.proofs.Bases.{arrived}
use Rattle.gv_seats.proofs.Expressions.{expressions_law}
use Rattle.gv_seats.proofs.Objects.{one_run, has_cell, cells_are}
use Rattle.gv_rules.proofs.Loads.{unmarked_is}
use Rattle.gv_rules.proofs.Steps.{with_local, left_with, seat_set}
use Rattle.gv_slicing.specs.Laws.{ItemsLaw}
use Rattle.gv_slicing.specs.Rows.{items, one_of, less}
use Rattle.gv_slicing.proofs.Lists.{there_within, within_there, below_is, mapped_at}
use Rattle.gv_slicing.proofs.Operands.{word_operand, slice_is, slice_value}
use Rattle.gv_slicing.proofs.Owned.{owns_item, item_told, byte_is, not_mine}

-- ---- items of lists

-- the item of a list under a number, as a cell holds it; who reads the cell gets what the list has there
record Item (list : Value) (all : List Value) (m : ℕ) : Type 0 where
  pub item : Value
  pub there : slice_get all m ≡ Some item
  pub is : (v : Val) → value_of v ≡ item → plain (as_read v) ≡ Some (operate op.At (list ∷ val.Word m ∷ []))

found_index : (xs : List ℕ) (m x : ℕ) → slice_get xs m ≡ Some x → x ≡ slice_index_or xs m 0
found_index [] m x e = absurd cc
found_index (y ∷ xs) zero x e = let same : y ≡ x = cc in sym same
found_index (y ∷ xs) (suc m) x e = found_index xs m x e

word_read : (v : Val) (n : ℕ) → value_of v ≡ val.Word n → plain (as_read v) ≡ Some (val.Word n)
word_read (stored.Word m) n e = ap Some e
word_read (stored.Byte b) n e = absurd cc
word_read (stored.Bool b) n e = absurd cc
word_read (stored.Ref r) n e = absurd cc
word_read (stored.Slice s) n e = absurd cc
word_read stored.Unit n e = absurd cc

ref_read : (v : Val) (n : ℕ) → value_of v ≡ val.Ref n → plain (as_read v) ≡ Some (val.Ref n)
ref_read (stored.Ref r) n e = ap Some e
ref_read (stored.Word m) n e = absurd cc
ref_read (stored.Byte b) n e = absurd cc
ref_read (stored.Bool b) n e = absurd cc
ref_read (stored.Slice s) n e = absurd cc
ref_read stored.Unit n e = absurd cc

mapped_item : (f : ℕ → Value) (list : Value) (xs : List ℕ) (all : List Value) (m : ℕ) → Some (map f xs) ≡ Some all → val.Bool (nat_lt m (length xs)) ≡ val.Bool true
    → ((x : ℕ) → x ≡ slice_index_or xs m 0 → (v : Val) → value_of v ≡ f x → plain (as_read v) ≡ Some (operate op.At (list ∷ val.Word m ∷ []))) → Item list all m
mapped_item f list xs all m are known read =
    let same : map f xs ≡ all = cc in
    let below : nat_lt m (length xs) ≡ true = cc in
    let (x, there) = there_within xs m (below_is m (length xs) below) in
    record {
      item = f x;
      there = subst (λ (ys : List Value). slice_get ys m ≡ Some (f x)) same (mapped_at f xs m x there);
      is = read x (found_index xs m x there);
    }

item_value : (list : Value) (all : List Value) (m : ℕ) → items_of list ≡ Some all → operate op.Less (val.Word m ∷ operate op.Len (list ∷ []) ∷ []) ≡ val.Bool true → Item list all m
item_value (val.Bytes xs) all m are known =
    mapped_item (λ (b : ℕ). val.Bytes (b ∷ [])) (val.Bytes xs) xs all m are known
    (λ b at v is. ap (λ (c : Val). plain (as_read c)) (byte_is v b is) ∙ ap (λ (i : ℕ). Some (val.Word i)) at)
item_value (val.Words xs) all m are known =
    mapped_item (λ (n : ℕ). val.Word n) (val.Words xs) xs all m are known (λ n at v is. word_read v n is ∙ ap (λ (i : ℕ). Some (val.Word i)) at)
item_value (val.Refs xs) all m are known =
    mapped_item (λ (n : ℕ). val.Ref n) (val.Refs xs) xs all m are known (λ n at v is. ref_read v n is ∙ ap (λ (i : ℕ). Some (val.Ref i)) at)
item_value _ all m are known = absurd cc

-- ---- reading

reads : (w : World) (object place : ℕ) (c : Cell) → slice_get (cells_in (object_at w object)) place ≡ Some c → c.marked ≡ false → read_cell w object place ≡ Next (as_read c.value)
reads w object place c there free =
    let at = has_cell w object place c there in
    let before : cells_in (object_at w object) ≡ at.cells = ap cells_in (ap (object_at w) at.number ∙ at.there) in
    ap (λ (a : Answer (List Cell)). and_then (and_then a (λ cells. unmarked (run cells place 1) 1)) first_value) (ap (cells_of w) at.number ∙ cells_are w at.index ∙ ap as_cells at.there)
    ∙ ap (λ (cells : List Cell). and_then (unmarked cells 1) first_value) (one_run at.cells place c (subst (λ (cells : List Cell). slice_get cells place ≡ Some c) before there))
    ∙ ap (λ (marked : Bool). and_then (unmarked (record { value = c.value; marked = marked } ∷ []) 1) first_value) free

pub within_test : (s : SliceVal) (n : ℕ) → n < s.length → is_within s n ≡ true
within_test s n l = elim (below_test n s.length) [ inl (k, t) ↦ t | inr (k, t) ↦ absurd (omega arith) ]

module _ (program : Program) (extra : ℕ) (w : World) (f : Frame) (below : List Frame) where
  abbrev at : Todo → Frame
  at todo = record f { todo = todo }

  abbrev row : Todo → Todo → ℕ → Option Val → Option Val → Answer Stepped
  row todo next x p q = and_then (and_then (as_slice p) (λ t. and_then (as_word q) (λ n. with_item t n (and_then (read_cell w t.object (t.offset + n)) (λ v. sets w f.locals x v)))))
      (settled (at_rest (at todo) below) w (Some next))

  item_step : (x : ℕ) (e i : Expr) (place : Place) (next : Todo) (s : SliceVal) (n : ℕ) (v : Val) → f.todo ≡ Run (Do (At x e i) place) ∷ next → value f.locals e ≡ Some (stored.Slice s)
      → value f.locals i ≡ Some (stored.Word n) → n < s.length → read_cell w s.object (s.offset + n) ≡ Next v → stepped program extra (at_rest f below) w ≡ left_with program extra w f below x v next
  item_step x e i place next s n v is p q within read =
      let todo : Todo = Run (Do (At x e i) place) ∷ next in
      subst (λ (t : Todo). stepped program extra (at_rest (at t) below) w ≡ left_with program extra w f below x v next) (sym is)
      (subst (λ (y : Option Val). row todo next x y (value f.locals i) ≡ left_with program extra w f below x v next) (sym p)
      (subst (λ (y : Option Val). row todo next x (Some (stored.Slice s)) y ≡ left_with program extra w f below x v next) (sym q)
      (subst (λ (b : Bool). and_then (undefined_if (not b) OutOfRange (and_then (read_cell w s.object (s.offset + n)) (λ u. sets w f.locals x u))) (settled (at_rest (at todo) below) w (Some next))
      ≡ left_with program extra w f below x v next) (sym (within_test s n within))
      (subst (λ (a : Answer Val). and_then (and_then a (λ u. sets w f.locals x u)) (settled (at_rest (at todo) below) w (Some next)) ≡ left_with program extra w f below x v next) (sym read) refl))))

-- ---- the law

pub owned_slice : {preds : List Predicate} {env : Env} {frozen : Bool} {s t : TermTree} {p : Piece} (sl : SliceVal) → value_under env s ≡ val.SliceS sl → StandsFor preds env (Slice frozen s t) p
    → OwnsSlice frozen sl (value_under env t) p
owned_slice {env = env} {frozen = frozen} {t = t} {p = p} sl is (slice h) = subst (λ (x : Value). OwnsSlice frozen (slice_of x) (value_under env t) p) is h

pub known_below : (env : Env) (n t : TermTree) (m : ℕ) → value_under env n ≡ val.Word m → IsTrueUnder env (less n (one_of op.Len t))
    → operate op.Less (val.Word m ∷ operate op.Len (value_under env t ∷ []) ∷ []) ≡ val.Bool true
known_below env n t m is truth =
    sym (value_apply env op.Less (n ∷ one_of op.Len t ∷ []) ∙ ap (λ (v : Value). operate op.Less (v ∷ value_under env (one_of op.Len t) ∷ [])) is
    ∙ ap (λ (v : Value). operate op.Less (val.Word m ∷ v ∷ [])) (value_apply env op.Len (t ∷ []))) ∙ truth

at_value : (env : Env) (t n : TermTree) (m : ℕ) → value_under env n ≡ val.Word m → operate op.At (value_under env t ∷ val.Word m ∷ []) ≡ value_under env (tree.Apply op.At (t ∷ n ∷ []))
at_value env t n m is = sym (value_apply env op.At (t ∷ n ∷ []) ∙ ap (λ (v : Value). operate op.At (value_under env t ∷ v ∷ [])) is)

pub items_law : ItemsLaw
items_law o h k (items x e i s t n frozen left place next may todo l s_term s_sort i_term i_sort takes known) program extra w g start f below rest seat =
    let env = seat.env in
    let d = seat.described in
    let (sv, s_found, s_plain) = expressions_law env h.locals f.locals d.locals e s sort.SliceS s_term s_sort in
    let (sl, s_is) = slice_value (value_under env s) (values_have_sorts env s sort.SliceS s_sort) in
    let (m, i_found, i_is) = word_operand env h.locals f.locals d.locals i n i_term i_sort in
    let (q, r, split, stands, others) = parted (front takes d.stands) in
    let has = owned_slice sl s_is stands in
    let facts = known env d.valuation d.facts in
    let item = item_value (value_under env t) has.items m has.of_list (known_below env n t m i_is facts.0) in
    let all : Piece = λ y. seat.piece y + (seat.pool y + (of_locks w seat.locks y + rest y)) in
    let key : List Value = val.Ref sl.object ∷ val.Word (sl.offset + m) ∷ [] in
    let xs : List Value = item.item ∷ [] in
    let owned : 0 < q (Have (item_kind frozen) key xs) =
    subst (λ (j : ℕ). 0 < q (Have (item_kind frozen) (cell_key sl j) xs)) (omega arith) (owns_item (item_kind frozen) sl 0 has.items q m item.item has.cells item.there) in
    let within = split (Have (item_kind frozen) key xs) in
    let found = item_told (shape_of o) w g frozen sl.object (sl.offset + m) item.item (seat.base.fits.says (item_kind frozen) key xs (omega arith)) in
    let free = unmarked_is found.cell.marked (λ marked. not_mine (shape_of o) w g all seat.base.fits frozen sl.object (sl.offset + m) xs q rest (λ y. let a = split y in omega arith) frozen owned
    (seat.still (CellAt sl.object (sl.offset + m)) (ap cell_marked found.there ∙ marked))) in
    let inside = within_there has.items m item.item item.there in
    let many = has.as_many in
    let step = item_step program extra w f below x e i place next sl m (as_read found.cell.value) (d.todo ∙ todo) (s_found ∙ ap Some (slice_is sv sl (s_plain ∙ ap Some s_is))) i_found (omega arith)
    (reads w sl.object (sl.offset + m) found.cell found.there free) in
    let term = tree.Apply op.At (t ∷ n ∷ []) in
    let after = goes_on h next (slice_set h.locals x (Some term)) h.atoms in
    let now = with_local f x (as_read found.cell.value) next in
    subst (λ (answer : Answer Stepped). Goes o g start below h (after ∷ []) rest Nothing answer) (sym step)
    (goes (arrived o w g start now h after rest refl (seat_set o w g start f h rest x term (as_read found.cell.value) next seat l
    (item.is found.cell.value found.is ∙ ap Some (at_value env t n m i_is)))))
