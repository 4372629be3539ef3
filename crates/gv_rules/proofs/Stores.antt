-- Writing a cell that is owned, in two steps.
use Rattle.std.proofs.Common.{◌≡◌, ℕ, suc, ◌+◌, ◌<◌, Bool, true, false, List, [], ◌∷◌, Option, Some, refl, sym, ap, subst, ◌∙◌, ◌⊎◌, inl, inr, arith}
use Rattle.gv_base.specs.declared.answers.Place.{Place}
use Rattle.gv_base.specs.declared.answer.Answer.{Answer}
use Rattle.gv_base.specs.declared.answer.Answer.TheVariants.{Next}
use Rattle.gv_base.specs.declared.val.Val.{Val}
use Rattle.gv_base.specs.declared.val.Val.TheVariants as stored
use Rattle.gv_terms.specs.declared.sort.Sort.{Sort}
use Rattle.gv_terms.specs.declared.sort.Sort.TheVariants as sort
use Rattle.gv_terms.specs.declared.operator.Operator.TheVariants as op
use Rattle.gv_terms.specs.declared.tree.TermTree.{TermTree}
use Rattle.gv_terms.specs.declared.value.Env.{Env}
use Rattle.gv_terms.specs.declared.value.Value.{Value}
use Rattle.gv_terms.specs.declared.value.Value.TheVariants as val
use Rattle.gv_terms.specs.Trees.{sort_of, value_under}
use Rattle.gv_terms.specs.Values.{sort_of_value}
use Rattle.gv_terms.proofs.Valued.{value_apply}
use Rattle.gv_terms.proofs.ValueSorts.{values_have_sorts}
use Rattle.gv_world.specs.declared.cell.Cell.{Cell}
use Rattle.gv_world.specs.Answers.{and_then}
use Rattle.gv_world.specs.Store.{Store as World}
use Rattle.gv_world.specs.Cells.{as_written, with_mark, begin_write, end_write}
use Rattle.gv_lang.specs.declared.program.ItemKind.{ItemKind}
use Rattle.gv_lang.specs.Tree.{Expr, Store, Put, Put64, Append, MapPut, MapDelete, Do, Program}
use Rattle.gv_lang.specs.Todo.{Todo, Run}
use Rattle.gv_lang.specs.Threads.{Frame, Thread}
use Rattle.gv_lang.specs.Table.{Effect, Begins, as_ref, as_value, leaves, in_two_steps}
use Rattle.gv_lang.specs.Table as table
use Rattle.gv_lang.specs.Values.{value}
use Rattle.gv_lang.specs.Step.{Stepped, GoesOn, stepped, settled}
use Rattle.gv_resources.specs.Kinds as kind
use Rattle.gv_resources.specs.Kinds.{Kind, cell_kind}
use Rattle.gv_resources.specs.Pieces.{Resource, Have, Piece, Fits, single, sum_below}
use Rattle.gv_resources.specs.Ghost.{Ghost, Mode}
use Rattle.gv_resources.specs.Told.{told, value_of}
use Rattle.gv_resources.proofs.Equality.{single_within, single_same}
use Rattle.gv_resources.proofs.Fitting.{fits_less, fits_same, fits_change}
use Rattle.gv_assertions.specs.Atoms.{Atom, Owns, Predicate}
use Rattle.gv_assertions.specs.Standing.{AreParts, StandsFor, StandForAll, owns, both}
use Rattle.gv_seats.specs.Paths.{Path, Bracket, number, term_of, goes_on}
use Rattle.gv_seats.specs.Seats.{Proof, shape_of, Seat, BegunSeat, Base, Described, Target, CellAt, MapAt, Writes, puts, puts_word, appends, puts_entry, deletes_entry, OwnsTarget, IsMarked, AreOwned, plain, is_marked, map_mark, of_locks}
use Rattle.gv_seats.specs.Seats.{stores as writes_cell}
use Rattle.gv_seats.specs.Changes.{Nothing}
use Rattle.gv_seats.specs.Soundness.{Goes, goes, BeginsAt, begins, at_rest}
use Rattle.gv_seats.proofs.Bases.{arrived, base_after, consistent_objects}
use Rattle.gv_seats.proofs.Expressions.{expressions_law}
use Rattle.gv_seats.proofs.Objects.{HasCell, has_cell, with_cell, begins_cell, ends_cell, cell_there, cell_elsewhere, kept_of, as_many}
use Rattle.gv_seats.proofs.Telling.{told_same, told_after, locks_same}
use Rattle.gv_rules.specs.Rows.{stores, Replaces, here, there, IsLocalSort}
use Rattle.gv_rules.specs.Laws.{StoresLaw}
use Rattle.gv_rules.proofs.Loads.{Found, cell_told, nobody, unmarked_is, as_ref_is, ref_value, owned_cell, cell_key}
use Rattle.gv_resources.proofs.Sums.{number_test}

-- ---- an assertion that becomes another

pub record Swapped (preds : List Predicate) (env : Env) (a b : Atom) (all after : List Atom) (p : Piece) : Type 0 where
  pub first : Piece
  pub others : Piece
  pub split : AreParts first others p
  pub stands : StandsFor preds env a first
  pub again : (q r : Piece) → AreParts q others r → StandsFor preds env b q → StandForAll preds env after r

pub swapped : {preds : List Predicate} {env : Env} {a b : Atom} {all after : List Atom} {p : Piece} → Replaces all a b after → StandForAll preds env all p
    → Swapped preds env a b all after p
swapped here (both q r split a s) = record { first = q; others = r; split = split; stands = a; again = λ x y parts b. both x r parts b s }
swapped (there t) (both q r split a s) =
    let rest = swapped t s in
    record {
      first = rest.first;
      others = λ e. q e + rest.others e;
      split = λ e. let l = split e in let m = rest.split e in omega arith;
      stands = rest.stands;
      again = λ x y parts b. both q (λ e. x e + rest.others e) (λ e. let l = parts e in omega arith) a (rest.again x (λ e. x e + rest.others e) (λ e. omega arith) b);
    }

-- ---- what a row says of a state where its frame stands

-- the row's parts
module _ (o : Proof) (h : Path) (p e : Expr) (object v t : TermTree) (of field : ℕ) (after : List Atom) (s : Sort) where
  abbrev cell_of : TermTree → Atom
  cell_of value = Owns kind.Cell (object ∷ number of ∷ number field ∷ []) (value ∷ [])

  pub record Facts (w : World) (g : Ghost) (f : Frame) (env : Env) (piece : Piece) : Type 0 where
    pub n : ℕ
    pub p_value : value f.locals p ≡ Some (stored.Ref n)
    pub given : Val
    pub e_value : value f.locals e ≡ Some given
    pub given_is : plain given ≡ Some (value_under env t)
    pub key : value_under env object ∷ value_under env (number field) ∷ [] ≡ val.Ref n ∷ val.Word field ∷ []
    pub parts : Swapped o.preds env (cell_of v) (cell_of t) h.atoms after piece
    pub has : 0 < parts.first (Have kind.Cell (val.Ref n ∷ val.Word field ∷ []) (value_under env v ∷ []))
    pub told_so : told (shape_of o) w g kind.Cell (val.Ref n ∷ val.Word field ∷ []) ≡ Some (value_under env v ∷ [])
    pub found : Found w n field (value_under env v)
    pub there : HasCell w n field found.cell

  pub facts : (w : World) (g : Ghost) (start : Env) (f : Frame) (env : Env) (piece pool : Piece) (locks : ℕ → Piece) (rest : Piece) → term_of h.locals p ≡ Some object
      → sort_of object ≡ Some sort.Ref → term_of h.locals e ≡ Some t → sort_of t ≡ Some s → Replaces h.atoms (cell_of v) (cell_of t) after
      → Described o.preds start env h f piece → Base o w g h.mode h.bracket piece pool locks rest → Facts w g f env piece
  facts w g start f env piece pool locks rest p_term object_sort e_term t_sort replaces described base =
      let (ref, p_found, p_is) = expressions_law env h.locals f.locals described.locals p object sort.Ref p_term object_sort in
      let (given, e_found, e_is) = expressions_law env h.locals f.locals described.locals e t s e_term t_sort in
      let (n, object_is) = ref_value (value_under env object) (values_have_sorts env object sort.Ref object_sort) in
      let parts = swapped replaces described.stands in
      let xs : List Value = value_under env v ∷ [] in
      let key = cell_key (value_under env object) (value_under env (number field)) n field object_is (value_apply env (op.Number field) []) in
      let has : 0 < parts.first (Have kind.Cell (val.Ref n ∷ val.Word field ∷ []) xs) = subst (λ (key : List Value). 0 < parts.first (Have kind.Cell key xs)) key (owned_cell false parts.stands) in
      let within = parts.split (Have kind.Cell (val.Ref n ∷ val.Word field ∷ []) xs) in
      let says = base.fits.says kind.Cell (val.Ref n ∷ val.Word field ∷ []) xs (omega arith) in
      let found = cell_told (shape_of o) w g false n field (value_under env v) says in
      record {
        n = n;
        p_value = p_found ∙ ap Some (as_ref_is ref n (p_is ∙ ap Some object_is));
        given = given;
        e_value = e_found;
        given_is = e_is;
        key = key;
        parts = parts;
        has = has;
        told_so = says;
        found = found;
        there = has_cell w n field found.cell found.there;
      }

-- ---- the steps

module _ (program : Program) (extra : ℕ) (w : World) (f : Frame) (below : List Frame) (p e : Expr) (of field : ℕ) (place : Place) (next : Todo) (n : ℕ) (v : Val)
    (is : f.todo ≡ Run (Do (Store p of field e) place) ∷ next) (p_value : value f.locals p ≡ Some (stored.Ref n)) (e_value : value f.locals e ≡ Some v) where
  abbrev at : Todo → Frame
  at todo = record f { todo = todo }

  abbrev thread : Bool → Frame → Thread
  thread begun top = record { top = top; below = below; begun = begun }

  abbrev row : Bool → Option Val → Option Val → Answer Stepped
  row begun a b = and_then (and_then (as_ref a) (λ o. and_then (as_value b) (λ u. in_two_steps begun f.locals (begin_write w o field 1) (end_write w o field (u ∷ [])))))
      (settled (thread begun (at (Run (Do (Store p of field e) place) ∷ next))) w (Some next))

  to_row : (begun : Bool) (answer : Answer Stepped) → row begun (Some (stored.Ref n)) (Some v) ≡ answer → stepped program extra (thread begun f) w ≡ answer
  to_row begun answer so =
      subst (λ (todo : Todo). stepped program extra (thread begun (at todo)) w ≡ answer) (sym is)
      (subst (λ (a : Option Val). row begun a (value f.locals e) ≡ answer) (sym p_value) (subst (λ (b : Option Val). row begun (Some (stored.Ref n)) b ≡ answer) (sym e_value) so))

  pub first_step : (after : World) → begin_write w n field 1 ≡ Next after → stepped program extra (thread false f) w ≡ Next (GoesOn after (thread true f) [])
  first_step after begun = to_row false (Next (GoesOn after (thread true f) []))
      (subst (λ (todo : Todo). and_then (and_then (begin_write w n field 1) (λ x. Next (Begins x))) (settled (thread false (at todo)) w (Some next)) ≡ Next (GoesOn after (thread true f) [])) is
      (subst (λ (a : Answer World). and_then (and_then a (λ x. Next (Begins x))) (settled (thread false f) w (Some next)) ≡ Next (GoesOn after (thread true f) [])) (sym begun) refl))

  pub second_step : (after : World) → end_write w n field (v ∷ []) ≡ Next after
      → stepped program extra (thread true f) w ≡ Next (GoesOn after (thread false (record f { todo = next })) [])
  second_step after ended = to_row true (Next (GoesOn after (thread false (record f { todo = next })) []))
      (subst (λ (a : Answer World). and_then (and_then a (λ x. Next (table.Goes x f.locals))) (settled (thread true (at (Run (Do (Store p of field e) place) ∷ next))) w (Some next))
      ≡ Next (GoesOn after (thread false (record f { todo = next })) [])) (sym ended) refl)

-- ---- what else holds in a world with one cell given anew

pub base_with_cell : (o : Proof) (w : World) (g : Ghost) (m : Mode) (b : Bracket) (piece later pool : Piece) (locks : ℕ → Piece) (rest : Piece) (n field : ℕ) (c d : Cell) (h : HasCell w n field c)
    → Base o w g m b piece pool locks rest
    → Fits (λ e. later e + (pool e + (of_locks w locks e + rest e))) (told (shape_of o) (with_cell w n field h.cells d) g) → Base o (with_cell w n field h.cells d) g m b later pool locks rest
base_with_cell o w g m b piece later pool locks rest n field c d h base fits = record {
  fits = fits_less (λ e. let l = same_locks e in omega arith) fits;
  mode = base.mode;
  crash = base.crash;
  free = λ object guard is free. base.free object guard is (sym (locks_same (shape_of o) g w n field c d h object) ∙ free);
  consistent = consistent_objects o w g (with_cell w n field h.cells d).objects (as_many w n field c d h) base.consistent;
}
  where
    same_locks : (e : Resource) → of_locks (with_cell w n field h.cells d) locks e ≡ of_locks w locks e
    same_locks e = ap (λ k. sum_below (suc k) (λ j. locks j e)) (as_many w n field c d h)

marked_before : (w : World) (n field : ℕ) (c d : Cell) (h : HasCell w n field c) (object place : ℕ) → IsMarked (with_cell w n field h.cells d) (CellAt object place)
    → ((object ≡ n) × (place ≡ field)) ⊎ IsMarked w (CellAt object place)
marked_before w n field c d h object place marked = elim (number_test object n) [
  | inl (e, b) ↦ elim (number_test place field) [
    | inl (q, t) ↦ inl (e, q)
    | inr (ne, t) ↦ inr (ap is_marked (sym (cell_elsewhere w n field c d h object place (λ z. ne))) ∙ marked)
  ]
  | inr (ne, b) ↦ inr (ap is_marked (sym (cell_elsewhere w n field c d h object place (λ z. absurd (ne z)))) ∙ marked)
]

-- a cell that is given anew without a mark has none
new_unmarked : (w : World) (n field : ℕ) (c d : Cell) (h : HasCell w n field c) → d.marked ≡ false → (object place : ℕ) → object ≡ n → place ≡ field
    → IsMarked (with_cell w n field h.cells d) (CellAt object place) → ⊥
new_unmarked w n field c d h free object place a b marked =
    let here : IsMarked (with_cell w n field h.cells d) (CellAt n field) =
    subst (λ i. IsMarked (with_cell w n field h.cells d) (CellAt n i)) b (subst (λ k. IsMarked (with_cell w n field h.cells d) (CellAt k place)) a marked) in
    let both : d.marked ≡ true = sym (ap is_marked (cell_there w n field c d h)) ∙ here in
    let never : false ≡ true = sym free ∙ both in
    cc

-- ---- what is written

written_is : (old v : Val) (x : Value) (s : Sort) → value_of old ≡ x → sort_of_value x ≡ Some s → IsLocalSort s → as_written old v ≡ v
written_is (stored.Byte b) v x s e q l =
    let d : Some sort.Bytes ≡ Some s = ap sort_of_value e ∙ q in
    let k : sort.Bytes ≡ s = cc in
    absurd (subst (λ (z : Sort). IsLocalSort z) (sym k) l)
written_is (stored.Word n) v x s e q l = refl
written_is (stored.Bool n) v x s e q l = refl
written_is (stored.Ref n) v x s e q l = refl
written_is (stored.Slice n) v x s e q l = refl
written_is stored.Unit v x s e q l = refl

value_is : (v : Val) (x : Value) → plain v ≡ Some x → value_of v ≡ x
value_is (stored.Word n) x e = cc
value_is (stored.Bool b) x e = cc
value_is (stored.Ref r) x e = cc
value_is (stored.Slice s) x e = cc
value_is (stored.Byte b) x e = absurd cc
value_is stored.Unit x e = absurd cc

-- what a frame writes whose next command is a store is the cell that this names
writes_same : (f : Frame) (t : Target) (p e : Expr) (of field : ℕ) (at : Place) (next : Todo) (n : ℕ) → Writes f t
    → f.todo ≡ Run (Do (Store p of field e) at) ∷ next → value f.locals p ≡ Some (stored.Ref n) → t ≡ CellAt n field
writes_same f _ p e of field where_at next n (writes_cell q of' place' e' at' next' object' is value_there) todo found =
    let same : Run (Do (Store q of' place' e') at') ∷ next' ≡ Run (Do (Store p of field e) where_at) ∷ next = sym is ∙ todo in
    let same_p : q ≡ p = cc in
    let same_place : place' ≡ field = cc in
    let value_same : Some (stored.Ref object') ≡ Some (stored.Ref n) = sym value_there ∙ ap (value f.locals) same_p ∙ found in
    let same_object : object' ≡ n = cc in
    rw (same_object, same_place) refl
writes_same f _ p e of field where_at next n (puts s' i' v' at' next' slice' n' is a b) todo found =
    (let never : Run (Do (Put s' i' v') at') ∷ next' ≡ Run (Do (Store p of field e) where_at) ∷ next = sym is ∙ todo in absurd cc)
writes_same f _ p e of field where_at next n (puts_word s' v' at' next' slice' n' is a b) todo found =
    (let never : Run (Do (Put64 s' v') at') ∷ next' ≡ Run (Do (Store p of field e) where_at) ∷ next = sym is ∙ todo in absurd cc)
writes_same f _ p e of field where_at next n (appends x' item' s' v' at' next' slice' is a) todo found =
    (let never : Run (Do (Append x' item' s' v') at') ∷ next' ≡ Run (Do (Store p of field e) where_at) ∷ next = sym is ∙ todo in absurd cc)
writes_same f _ p e of field where_at next n (puts_entry m' k' v' at' next' object' is a) todo found =
    (let never : Run (Do (MapPut m' k' v') at') ∷ next' ≡ Run (Do (Store p of field e) where_at) ∷ next = sym is ∙ todo in absurd cc)
writes_same f _ p e of field where_at next n (deletes_entry m' k' at' next' object' is a b) todo found =
    (let never : Run (Do (MapDelete m' k') at') ∷ next' ≡ Run (Do (Store p of field e) where_at) ∷ next = sym is ∙ todo in absurd cc)

-- a store is no append
no_append : (f : Frame) (p e s v : Expr) (of field x : ℕ) (item : ItemKind) (place at : Place) (next after : Todo) → f.todo ≡ Run (Do (Store p of field e) place) ∷ next
    → f.todo ≡ Run (Do (Append x item s v) at) ∷ after → ⊥
no_append f p e s v of field x item place at next after is other =
    let never : Run (Do (Store p of field e) place) ∷ next ≡ Run (Do (Append x item s v) at) ∷ after = sym is ∙ other in
    cc

-- ---- the law

new_cell_stands : (preds : List Predicate) (env : Env) (object t : TermTree) (of n field : ℕ) (x : Value) → value_under env object ∷ value_under env (number field) ∷ [] ≡ val.Ref n ∷ val.Word field ∷ []
    → x ≡ value_under env t → StandsFor preds env (Owns kind.Cell (object ∷ number of ∷ number field ∷ []) (t ∷ [])) (single (Have kind.Cell (val.Ref n ∷ val.Word field ∷ []) (x ∷ [])))
new_cell_stands preds env object t of n field x key is =
    owns (subst (λ (k : List Value). 0 < single (Have kind.Cell (val.Ref n ∷ val.Word field ∷ []) (x ∷ [])) (Have kind.Cell k (value_under env t ∷ []))) (sym key)
    (subst (λ (y : Value). 0 < single (Have kind.Cell (val.Ref n ∷ val.Word field ∷ []) (x ∷ [])) (Have kind.Cell (val.Ref n ∷ val.Word field ∷ []) (y ∷ []))) is
    (let s = single_same (Have kind.Cell (val.Ref n ∷ val.Word field ∷ []) (x ∷ [])) in omega arith)))

-- the marks after the first step, and after the second
pub still_begun : (w : World) (n field : ℕ) (c d : Cell) (h : HasCell w n field c) (f : Frame) (rest : Piece) → Writes f (CellAt n field) → AreOwned w rest
    → (t : Target) → IsMarked (with_cell w n field h.cells d) t → Writes f t ⊎ OwnsTarget rest t
still_begun w n field c d h f rest mine still (CellAt object place) m = elim (marked_before w n field c d h object place m) [
  | inl (a, b) ↦ inl (subst (λ (i : ℕ). Writes f (CellAt object i)) (sym b) (subst (λ (k : ℕ). Writes f (CellAt k field)) (sym a) mine))
  | inr before ↦ inr (still (CellAt object place) before)
]
still_begun w n field c d h f rest mine still (MapAt object) m = inr (still (MapAt object) (sym (kept_of w n field c d h map_mark (λ x y. refl) object) ∙ m))

pub still_ended : (w : World) (n field : ℕ) (c d : Cell) (h : HasCell w n field c) → d.marked ≡ false → (f : Frame) (rest : Piece)
    → ((t : Target) → Writes f t → t ≡ CellAt n field) → ((t : Target) → IsMarked w t → Writes f t ⊎ OwnsTarget rest t) → AreOwned (with_cell w n field h.cells d) rest
still_ended w n field c d h free f rest only still (CellAt object place) m = elim (marked_before w n field c d h object place m) [
  | inl (a, b) ↦ absurd (new_unmarked w n field c d h free object place a b m)
  | inr before ↦ elim (still (CellAt object place) before) [
    | inl writes ↦ (let e : CellAt object place ≡ CellAt n field = only (CellAt object place) writes in let a : object ≡ n = cc in let b : place ≡ field = cc in
        absurd (new_unmarked w n field c d h free object place a b m))
    | inr owned ↦ owned
  ]
]
still_ended w n field c d h free f rest only still (MapAt object) m =
    elim (still (MapAt object) (sym (kept_of w n field c d h map_mark (λ x y. refl) object) ∙ m)) [
      | inl writes ↦ (let e : MapAt object ≡ CellAt n field = only (MapAt object) writes in absurd cc)
      | inr owned ↦ owned
    ]

pub stores_law : StoresLaw
stores_law o h k (stores p e object v t of field after place next may todo p_term object_sort e_term s t_sort v_sort local replaces) = record { begin = begin; end = end }
  where
    begin : (program : Program) (extra : ℕ) (w : World) (g : Ghost) (start : Env) (f : Frame) (below : List Frame) (rest : Piece) → Seat o w g start f h rest
        → BeginsAt o g start below h (goes_on h next h.locals after ∷ []) rest (stepped program extra (at_rest f below) w)
    begin program extra w g start f below rest seat =
        let a = facts o h p e object v t of field after s w g start f seat.env seat.piece seat.pool seat.locks rest p_term object_sort e_term t_sort replaces seat.described seat.base in
        let whole : Piece = λ e. seat.piece e + (seat.pool e + (of_locks w seat.locks e + rest e)) in
        let still = unmarked_is a.found.cell.marked (λ m. nobody (shape_of o) w g whole seat.base.fits a.n field false (value_under seat.env v ∷ []) a.parts.first rest
        (λ e. let d = a.parts.split e in omega arith) a.has (seat.still (CellAt a.n field) (ap is_marked a.found.there ∙ m))) in
        let marked = with_mark true a.found.cell in
        let begun = begins_cell w a.n field a.found.cell a.there still in
        let step = first_step program extra w f below p e of field place next a.n a.given (seat.described.todo ∙ todo) a.p_value a.e_value (with_cell w a.n field a.there.cells marked) begun in
        let within = a.parts.split (Have kind.Cell (val.Ref a.n ∷ val.Word field ∷ []) (value_under seat.env v ∷ [])) in
        let has = a.has in
        subst (λ (answer : Answer Stepped). BeginsAt o g start below h (goes_on h next h.locals after ∷ []) rest answer) (sym step) (begins (record {
          env = seat.env;
          piece = seat.piece;
          pool = seat.pool;
          locks = seat.locks;
          described = seat.described;
          base = base_with_cell o w g h.mode h.bracket seat.piece seat.piece seat.pool seat.locks rest a.n field a.found.cell marked a.there seat.base
              (fits_same (told_same (shape_of o) g w a.n field a.found.cell marked a.there refl a.found.there) seat.base.fits);
          mine = λ target is. subst (λ (t : Target). OwnsTarget seat.piece t)
              (sym (writes_same f target p e of field place next a.n is (seat.described.todo ∙ todo) a.p_value)) (inl (value_under seat.env v ∷ [], omega arith));
          still = still_begun w a.n field a.found.cell marked a.there f rest (writes_cell p of field e place next a.n (seat.described.todo ∙ todo) a.p_value) seat.still;
          spare = λ x item s u at after slice kept is found same. absurd (no_append f p e s u of field x item place at next after (seat.described.todo ∙ todo) is);
        }))

    end : (program : Program) (extra : ℕ) (w : World) (g : Ghost) (start : Env) (f : Frame) (below : List Frame) (rest : Piece) → BegunSeat o w g start f h rest
        → Goes o g start below h (goes_on h next h.locals after ∷ []) rest Nothing (stepped program extra (record { top = f; below = below; begun = true }) w)
    end program extra w g start f below rest seat =
        let a = facts o h p e object v t of field after s w g start f seat.env seat.piece seat.pool seat.locks rest p_term object_sort e_term t_sort replaces seat.described seat.base in
        let key : List Value = val.Ref a.n ∷ val.Word field ∷ [] in
        let x : Value = value_of a.given in
        let new : Cell = record { value = a.given; marked = false } in
        let written = written_is a.found.cell.value a.given (value_under seat.env v) s a.found.is (values_have_sorts seat.env v s v_sort) local in
        let ended : end_write w a.n field (a.given ∷ []) ≡ Next (with_cell w a.n field a.there.cells new) =
        ends_cell w a.n field a.found.cell a.given a.there
        ∙ ap (λ (u : Val). Next (with_cell w a.n field a.there.cells (record { value = u; marked = false }))) written in
        let step = second_step program extra w f below p e of field place next a.n a.given (seat.described.todo ∙ todo) a.p_value a.e_value (with_cell w a.n field a.there.cells new) ended in
        let others = a.parts.others in
        let later : Piece = λ r. single (Have kind.Cell key (x ∷ [])) r + others r in
        let whole : Piece = λ r. seat.piece r + (seat.pool r + (of_locks w seat.locks r + rest r)) in
        let within = a.parts.split (Have kind.Cell key (value_under seat.env v ∷ [])) in
        let has = a.has in
        let changed : Fits (λ r. later r + (seat.pool r + (of_locks w seat.locks r + rest r))) _ =
        fits_change kind.Cell key (value_under seat.env v ∷ []) (x ∷ []) seat.base.fits refl
        (λ r. let l = a.parts.split r in let m = single_within (Have kind.Cell key (value_under seat.env v ∷ [])) a.parts.first a.has r in omega arith) (omega arith) in
        subst (λ (answer : Answer Stepped). Goes o g start below h (goes_on h next h.locals after ∷ []) rest Nothing answer) (sym step) (goes (arrived o (with_cell w a.n field a.there.cells new) g start (record f { todo = next }) h (goes_on h next h.locals after) rest refl (record {
          env = seat.env;
          piece = later;
          pool = seat.pool;
          locks = seat.locks;
          described = record {
            todo = refl;
            as_many = seat.described.as_many;
            locals = seat.described.locals;
            valuation = seat.described.valuation;
            started = seat.described.started;
            facts = seat.described.facts;
            stands = a.parts.again (single (Have kind.Cell key (x ∷ []))) later (λ r. omega arith) (new_cell_stands o.preds seat.env object t of a.n field x a.key (value_is a.given (value_under seat.env t) a.given_is));
          };
          base = base_after o (with_cell w a.n field a.there.cells new) g h.mode h.bracket later seat.pool seat.locks rest
              (base_with_cell o w g h.mode h.bracket seat.piece later seat.pool seat.locks rest a.n field a.found.cell new a.there seat.base
              (fits_same (told_after (shape_of o) g w a.n field a.found.cell new a.there (value_under seat.env v ∷ []) a.told_so) changed));
          still = still_ended w a.n field a.found.cell new a.there refl f rest
              (λ target is. writes_same f target p e of field place next a.n is (seat.described.todo ∙ todo) a.p_value) seat.still;
        })))
