-- Writing an item of a slice that is owned, in two steps.
use Rattle.std.proofs.Common.{◌≡◌, ℕ, ◌+◌, ◌<◌, Bool, true, false, not, nat_lt, List, [], ◌∷◌, length, Option, Some, refl, sym, ap, subst, ◌∙◌, inr, arith}
use Rattle.std.specs.Prelude.{slice_get, slice_set}
use Rattle.gv_base.specs.declared.answers.Place.{Place}
use Rattle.gv_base.specs.declared.answer.Answer.{Answer}
use Rattle.gv_base.specs.declared.answer.Answer.TheVariants.{Next}
use Rattle.gv_base.specs.declared.reason.Reason.TheVariants.{OutOfRange}
use Rattle.gv_base.specs.declared.val.Val.{Val}
use Rattle.gv_base.specs.declared.val.Val.TheVariants as stored
use Rattle.gv_base.specs.declared.slice_val.SliceVal.{SliceVal}
use Rattle.gv_terms.specs.declared.sort.Sort.TheVariants as sort
use Rattle.gv_terms.specs.declared.operator.Operator.TheVariants as op
use Rattle.gv_terms.specs.declared.tree.TermTree.{TermTree}
use Rattle.gv_terms.specs.declared.value.Env.{Env}
use Rattle.gv_terms.specs.declared.value.Value.{Value}
use Rattle.gv_terms.specs.declared.value.Value.TheVariants as val
use Rattle.gv_terms.specs.Meaning.{operate}
use Rattle.gv_terms.specs.Trees.{sort_of, value_under}
use Rattle.gv_terms.specs.Values.{slice_of}
use Rattle.gv_terms.proofs.Valued.{value_apply}
use Rattle.gv_terms.proofs.ValueSorts.{values_have_sorts}
use Rattle.gv_world.specs.declared.cell.Cell.{Cell}
use Rattle.gv_world.specs.Answers.{and_then, undefined_if}
use Rattle.gv_world.specs.Store.{Store as World}
use Rattle.gv_world.specs.Cells.{as_written, with_mark, begin_write, end_write}
use Rattle.gv_lang.specs.declared.program.ItemKind.{ItemKind}
use Rattle.gv_lang.specs.Tree.{Expr, Store, Put, Put64, Append, MapPut, MapDelete, Do, Program}
use Rattle.gv_lang.specs.Todo.{Todo, Run}
use Rattle.gv_lang.specs.Threads.{Frame, Thread}
use Rattle.gv_lang.specs.Table.{Begins, as_slice, as_word, as_value, with_item, in_two_steps}
use Rattle.gv_lang.specs.Table as table
use Rattle.gv_lang.specs.Values.{value}
use Rattle.gv_lang.specs.Step.{Stepped, GoesOn, stepped, settled}
use Rattle.gv_resources.specs.Kinds as kind
use Rattle.gv_resources.specs.Pieces.{Piece, Fits}
use Rattle.gv_resources.specs.Ghost.{Ghost}
use Rattle.gv_resources.specs.Told.{told, value_of}
use Rattle.gv_resources.proofs.Equality.{single_within}
use Rattle.gv_resources.proofs.Fitting.{fits_same, fits_change}
use Rattle.gv_assertions.specs.Atoms.{Atom, Slice}
use Rattle.gv_assertions.specs.Standing.{StandsFor, OwnsItems, OwnsSlice, slice, cell_key}
use Rattle.gv_seats.specs.Paths.{Path, term_of, goes_on}
use Rattle.gv_seats.specs.Seats.{Proof, shape_of, Seat, BegunSeat, Base, Described, Target, CellAt, Writes, stores, puts_word, appends, puts_entry, deletes_entry, OwnsTarget, plain, is_marked, of_locks}
use Rattle.gv_seats.specs.Seats.{puts as writes_item}
use Rattle.gv_seats.specs.Changes.{Nothing}
use Rattle.gv_seats.specs.Soundness.{Goes, goes, BeginsAt, begins, at_rest}
use Rattle.gv_seats.proofs.Bases.{arrived, base_after}
use Rattle.gv_seats.proofs.Expressions.{expressions_law}
use Rattle.gv_seats.proofs.Locals.{set_length}
use Rattle.gv_seats.proofs.Objects.{HasCell, has_cell, with_cell, begins_cell, ends_cell}
use Rattle.gv_seats.proofs.Telling.{told_same}
use Rattle.gv_rules.specs.Rows.{Replaces}
use Rattle.gv_rules.proofs.Loads.{Found, unmarked_is}
use Rattle.gv_rules.proofs.Stores.{Swapped, swapped, base_with_cell, still_begun, still_ended}
use Rattle.gv_giving.specs.Rows.{AreKnown}
use Rattle.gv_slicing.specs.Rows.{one_of, less, list_sort}
use Rattle.gv_slicing.proofs.Items.{owned_slice, known_below, within_test}
use Rattle.gv_slicing.proofs.Lists.{there_within, below_is}
use Rattle.gv_slicing.proofs.Operands.{word_operand, slice_is, slice_value}
use Rattle.gv_slicing.proofs.Owned.{owns_item, item_told, not_mine}
use Rattle.gv_putting.specs.Rows.{puts, one_sort, updated}
use Rattle.gv_putting.specs.Laws.{PutsLaw}
use Rattle.gv_putting.proofs.Values.{item_written, items_long}
use Rattle.gv_putting.proofs.Cells.{cell, with_value, items_set}
use Rattle.gv_putting.proofs.Told.{told_item}

-- ---- what a row says of a state where its frame stands

module _ (o : Proof) (h : Path) (e i y : Expr) (s t n v : TermTree) (k : ItemKind) (after : List Atom) where
  pub record Facts (w : World) (g : Ghost) (f : Frame) (env : Env) (piece : Piece) : Type 0 where
    pub sl : SliceVal
    pub m : ℕ
    pub given : Val
    pub s_value : value f.locals e ≡ Some (stored.Slice sl)
    pub i_value : value f.locals i ≡ Some (stored.Word m)
    pub y_value : value f.locals y ≡ Some given
    pub given_is : plain given ≡ Some (value_under env v)
    pub s_is : value_under env s ≡ val.SliceS sl
    pub n_is : value_under env n ≡ val.Word m
    pub parts : Swapped o.preds env (Slice false s t) (Slice false s (updated t n v)) h.atoms after piece
    pub has : OwnsSlice false sl (value_under env t) parts.first
    pub old : Value
    pub item : slice_get has.items m ≡ Some old
    pub within : m < sl.length
    pub owned : 0 < parts.first (cell sl m old)
    pub told_so : told (shape_of o) w g kind.Item (cell_key sl m) ≡ Some (old ∷ [])
    pub found : Found w sl.object (sl.offset + m) old
    pub there : HasCell w sl.object (sl.offset + m) found.cell

  below : (list : Value) (all : List Value) (m : ℕ) → operate op.Len (list ∷ []) ≡ val.Word (length all) → operate op.Less (val.Word m ∷ operate op.Len (list ∷ []) ∷ []) ≡ val.Bool true → m < length all
  below list all m long truth =
      let both : operate op.Less (val.Word m ∷ val.Word (length all) ∷ []) ≡ val.Bool true = sym (ap (λ (x : Value). operate op.Less (val.Word m ∷ x ∷ [])) long) ∙ truth in
      let test : nat_lt m (length all) ≡ true = cc in
      below_is m (length all) test

  pub facts : (w : World) (g : Ghost) (start : Env) (f : Frame) (env : Env) (piece pool : Piece) (locks : ℕ → Piece) (rest : Piece) → term_of h.locals e ≡ Some s → sort_of s ≡ Some sort.SliceS
      → term_of h.locals i ≡ Some n → sort_of n ≡ Some sort.Word → term_of h.locals y ≡ Some v → sort_of v ≡ Some (one_sort k) → AreKnown h (less n (one_of op.Len t) ∷ [])
      → Replaces h.atoms (Slice false s t) (Slice false s (updated t n v)) after
      → Described o.preds start env h f piece → Base o w g h.mode h.bracket piece pool locks rest → Facts w g f env piece
  facts w g start f env piece pool locks rest e_term s_sort i_term n_sort y_term v_sort known replaces described base =
      let (sv, s_found, s_plain) = expressions_law env h.locals f.locals described.locals e s sort.SliceS e_term s_sort in
      let (sl, s_is) = slice_value (value_under env s) (values_have_sorts env s sort.SliceS s_sort) in
      let (m, i_found, n_is) = word_operand env h.locals f.locals described.locals i n i_term n_sort in
      let (given, y_found, y_is) = expressions_law env h.locals f.locals described.locals y v (one_sort k) y_term v_sort in
      let parts = swapped replaces described.stands in
      let has = owned_slice sl s_is parts.stands in
      let truths = known env described.valuation described.facts in
      let inside = below (value_under env t) has.items m (items_long (value_under env t) has.items has.of_list) (known_below env n t m n_is truths.0) in
      let (old, item) = there_within has.items m inside in
      let owned : 0 < parts.first (cell sl m old) = subst (λ (j : ℕ). 0 < parts.first (cell sl j old)) (omega arith) (owns_item kind.Item sl 0 has.items parts.first m old has.cells item) in
      let within = parts.split (cell sl m old) in
      let says = base.fits.says kind.Item (cell_key sl m) (old ∷ []) (omega arith) in
      let found = item_told (shape_of o) w g false sl.object (sl.offset + m) old says in
      let many = has.as_many in
      record {
        sl = sl;
        m = m;
        given = given;
        s_value = s_found ∙ ap Some (slice_is sv sl (s_plain ∙ ap Some s_is));
        i_value = i_found;
        y_value = y_found;
        given_is = y_is;
        s_is = s_is;
        n_is = n_is;
        parts = parts;
        has = has;
        old = old;
        item = item;
        within = omega (arith, many, inside);
        owned = owned;
        told_so = says;
        found = found;
        there = has_cell w sl.object (sl.offset + m) found.cell found.there;
      }

-- ---- the steps

module _ (program : Program) (extra : ℕ) (w : World) (f : Frame) (below : List Frame) (e i y : Expr) (place : Place) (next : Todo) (sl : SliceVal) (m : ℕ) (v : Val)
    (is : f.todo ≡ Run (Do (Put e i y) place) ∷ next) (s_value : value f.locals e ≡ Some (stored.Slice sl)) (i_value : value f.locals i ≡ Some (stored.Word m))
    (y_value : value f.locals y ≡ Some v) (within : m < sl.length) where
  abbrev at : Todo → Frame
  at todo = record f { todo = todo }

  abbrev thread : Bool → Frame → Thread
  thread begun top = record { top = top; below = below; begun = begun }

  abbrev row : Bool → Option Val → Option Val → Option Val → Answer Stepped
  row begun a b c = and_then (and_then (as_slice a) (λ t. and_then (as_word b) (λ n. and_then (as_value c) (λ u. with_item t n
      (in_two_steps begun f.locals (begin_write w t.object (t.offset + n) 1) (end_write w t.object (t.offset + n) (u ∷ [])))))))
      (settled (thread begun (at (Run (Do (Put e i y) place) ∷ next))) w (Some next))

  to_row : (begun : Bool) (answer : Answer Stepped)
      → and_then (in_two_steps begun f.locals (begin_write w sl.object (sl.offset + m) 1) (end_write w sl.object (sl.offset + m) (v ∷ [])))
      (settled (thread begun (at (Run (Do (Put e i y) place) ∷ next))) w (Some next)) ≡ answer
      → stepped program extra (thread begun f) w ≡ answer
  to_row begun answer so =
      subst (λ (todo : Todo). stepped program extra (thread begun (at todo)) w ≡ answer) (sym is)
      (subst (λ (a : Option Val). row begun a (value f.locals i) (value f.locals y) ≡ answer) (sym s_value)
      (subst (λ (b : Option Val). row begun (Some (stored.Slice sl)) b (value f.locals y) ≡ answer) (sym i_value)
      (subst (λ (c : Option Val). row begun (Some (stored.Slice sl)) (Some (stored.Word m)) c ≡ answer) (sym y_value)
      (subst (λ (b : Bool). and_then (undefined_if (not b) OutOfRange
      (in_two_steps begun f.locals (begin_write w sl.object (sl.offset + m) 1) (end_write w sl.object (sl.offset + m) (v ∷ []))))
      (settled (thread begun (at (Run (Do (Put e i y) place) ∷ next))) w (Some next)) ≡ answer) (sym (within_test sl m within)) so))))

  pub first_step : (after : World) → begin_write w sl.object (sl.offset + m) 1 ≡ Next after → stepped program extra (thread false f) w ≡ Next (GoesOn after (thread true f) [])
  first_step after begun = to_row false (Next (GoesOn after (thread true f) []))
      (subst (λ (todo : Todo). and_then (and_then (begin_write w sl.object (sl.offset + m) 1) (λ x. Next (Begins x))) (settled (thread false (at todo)) w (Some next)) ≡ Next (GoesOn after (thread true f) [])) is
      (subst (λ (a : Answer World). and_then (and_then a (λ x. Next (Begins x))) (settled (thread false f) w (Some next)) ≡ Next (GoesOn after (thread true f) [])) (sym begun) refl))

  pub second_step : (after : World) → end_write w sl.object (sl.offset + m) (v ∷ []) ≡ Next after
      → stepped program extra (thread true f) w ≡ Next (GoesOn after (thread false (record f { todo = next })) [])
  second_step after ended = to_row true (Next (GoesOn after (thread false (record f { todo = next })) []))
      (subst (λ (a : Answer World). and_then (and_then a (λ x. Next (table.Goes x f.locals))) (settled (thread true (at (Run (Do (Put e i y) place) ∷ next))) w (Some next))
      ≡ Next (GoesOn after (thread false (record f { todo = next })) [])) (sym ended) refl)

-- what a frame writes whose next command is a put is the cell that this names
writes_same : (f : Frame) (t : Target) (e i y : Expr) (at : Place) (next : Todo) (sl : SliceVal) (m : ℕ) → Writes f t → f.todo ≡ Run (Do (Put e i y) at) ∷ next
    → value f.locals e ≡ Some (stored.Slice sl) → value f.locals i ≡ Some (stored.Word m) → t ≡ CellAt sl.object (sl.offset + m)
writes_same f _ e i y where_at next sl m (writes_item s' i' v' at' next' slice' n' is a b) todo found number =
    let same : Run (Do (Put s' i' v') at') ∷ next' ≡ Run (Do (Put e i y) where_at) ∷ next = sym is ∙ todo in
    let same_s : s' ≡ e = cc in
    let same_i : i' ≡ i = cc in
    let slice_same : Some (stored.Slice slice') ≡ Some (stored.Slice sl) = sym a ∙ ap (value f.locals) same_s ∙ found in
    let number_same : Some (stored.Word n') ≡ Some (stored.Word m) = sym b ∙ ap (value f.locals) same_i ∙ number in
    let is_slice : slice' ≡ sl = cc in
    let is_number : n' ≡ m = cc in
    rw (is_slice, is_number) refl
writes_same f _ e i y where_at next sl m (stores p' of' place' e' at' next' object' is a) todo found number =
    (let never : Run (Do (Store p' of' place' e') at') ∷ next' ≡ Run (Do (Put e i y) where_at) ∷ next = sym is ∙ todo in absurd cc)
writes_same f _ e i y where_at next sl m (puts_word s' v' at' next' slice' n' is a b) todo found number =
    (let never : Run (Do (Put64 s' v') at') ∷ next' ≡ Run (Do (Put e i y) where_at) ∷ next = sym is ∙ todo in absurd cc)
writes_same f _ e i y where_at next sl m (appends x' item' s' v' at' next' slice' is a) todo found number =
    (let never : Run (Do (Append x' item' s' v') at') ∷ next' ≡ Run (Do (Put e i y) where_at) ∷ next = sym is ∙ todo in absurd cc)
writes_same f _ e i y where_at next sl m (puts_entry m' k' v' at' next' object' is a) todo found number =
    (let never : Run (Do (MapPut m' k' v') at') ∷ next' ≡ Run (Do (Put e i y) where_at) ∷ next = sym is ∙ todo in absurd cc)
writes_same f _ e i y where_at next sl m (deletes_entry m' k' at' next' object' is a b) todo found number =
    (let never : Run (Do (MapDelete m' k') at') ∷ next' ≡ Run (Do (Put e i y) where_at) ∷ next = sym is ∙ todo in absurd cc)

-- ---- the law

no_append : (f : Frame) (e i y s v : Expr) (place at : Place) (next after : Todo) (x : ℕ) (k : ItemKind) → f.todo ≡ Run (Do (Put e i y) place) ∷ next
    → f.todo ≡ Run (Do (Append x k s v) at) ∷ after → ⊥
no_append f e i y s v place at next after x k is other =
    let never : Run (Do (Put e i y) place) ∷ next ≡ Run (Do (Append x k s v) at) ∷ after = sym is ∙ other in
    cc

pub puts_law : PutsLaw
puts_law o h _ (puts e i y s t n v k after place next may todo e_term s_sort i_term n_sort y_term v_sort t_sort known replaces) = record { begin = begin; end = end }
  where
    begin : (program : Program) (extra : ℕ) (w : World) (g : Ghost) (start : Env) (f : Frame) (below : List Frame) (rest : Piece) → Seat o w g start f h rest
        → BeginsAt o g start below h (goes_on h next h.locals after ∷ []) rest (stepped program extra (at_rest f below) w)
    begin program extra w g start f below rest seat =
        let a = facts o h e i y s t n v k after w g start f seat.env seat.piece seat.pool seat.locks rest e_term s_sort i_term n_sort y_term v_sort known replaces seat.described seat.base in
        let object : ℕ = a.sl.object in
        let at : ℕ = a.sl.offset + a.m in
        let whole : Piece = λ r. seat.piece r + (seat.pool r + (of_locks w seat.locks r + rest r)) in
        let still = unmarked_is a.found.cell.marked (λ marked. not_mine (shape_of o) w g whole seat.base.fits false object at (a.old ∷ []) a.parts.first rest
        (λ r. let d = a.parts.split r in omega arith) false a.owned (seat.still (CellAt object at) (ap is_marked a.found.there ∙ marked))) in
        let marked : Cell = with_mark true a.found.cell in
        let begun = begins_cell w object at a.found.cell a.there still in
        let step = first_step program extra w f below e i y place next a.sl a.m a.given (seat.described.todo ∙ todo) a.s_value a.i_value a.y_value a.within (with_cell w object at a.there.cells marked) begun in
        let within = a.parts.split (cell a.sl a.m a.old) in
        let has = a.owned in
        subst (λ (answer : Answer Stepped). BeginsAt o g start below h (goes_on h next h.locals after ∷ []) rest answer) (sym step) (begins (record {
          env = seat.env;
          piece = seat.piece;
          pool = seat.pool;
          locks = seat.locks;
          described = seat.described;
          base = base_with_cell o w g h.mode h.bracket seat.piece seat.piece seat.pool seat.locks rest object at a.found.cell marked a.there seat.base
              (fits_same (told_same (shape_of o) g w object at a.found.cell marked a.there refl a.found.there) seat.base.fits);
          mine = λ target is. subst (λ (x : Target). OwnsTarget seat.piece x)
              (sym (writes_same f target e i y place next a.sl a.m is (seat.described.todo ∙ todo) a.s_value a.i_value)) (inr (a.old ∷ [], omega arith));
          still = still_begun w object at a.found.cell marked a.there f rest (writes_item e i y place next a.sl a.m (seat.described.todo ∙ todo) a.s_value a.i_value) seat.still;
          spare = λ x kind' s' v' at' next' slice' u is found kept. absurd (no_append f e i y s' v' place at' next next' x kind' (seat.described.todo ∙ todo) is);
        }))

    end : (program : Program) (extra : ℕ) (w : World) (g : Ghost) (start : Env) (f : Frame) (below : List Frame) (rest : Piece) → BegunSeat o w g start f h rest
        → Goes o g start below h (goes_on h next h.locals after ∷ []) rest Nothing (stepped program extra (record { top = f; below = below; begun = true }) w)
    end program extra w g start f below rest seat =
        let env = seat.env in
        let a = facts o h e i y s t n v k after w g start f env seat.piece seat.pool seat.locks rest e_term s_sort i_term n_sort y_term v_sort known replaces seat.described seat.base in
        let object : ℕ = a.sl.object in
        let at : ℕ = a.sl.offset + a.m in
        let new : Cell = record { value = as_written a.found.cell.value a.given; marked = false } in
        let x : Value = value_of new.value in
        let ended = ends_cell w object at a.found.cell a.given a.there in
        let step = second_step program extra w f below e i y place next a.sl a.m a.given (seat.described.todo ∙ todo) a.s_value a.i_value a.y_value a.within (with_cell w object at a.there.cells new) ended in
        let others : Piece = a.parts.others in
        let now : Piece = with_value a.sl a.m a.old x a.parts.first in
        let later : Piece = λ r. now r + others r in
        let within = a.parts.split (cell a.sl a.m a.old) in
        let has = a.owned in
        let changed : Fits (λ r. later r + (seat.pool r + (of_locks w seat.locks r + rest r))) _ =
        fits_change kind.Item (cell_key a.sl a.m) (a.old ∷ []) (x ∷ []) seat.base.fits refl
        (λ r. let l = a.parts.split r in let one = single_within (cell a.sl a.m a.old) a.parts.first a.owned r in omega arith) (omega arith) in
        let list_is : value_under env (updated t n v) ≡ operate op.Upd (value_under env t ∷ val.Word a.m ∷ value_under env v ∷ []) =
        value_apply env op.Upd (t ∷ n ∷ v ∷ []) ∙ ap (λ (z : Value). operate op.Upd (value_under env t ∷ z ∷ value_under env v ∷ [])) a.n_is in
        let written = item_written k (value_under env t) a.has.items a.m a.found.cell.value a.given (value_under env v) (values_have_sorts env t (list_sort k) t_sort) a.has.of_list
        (a.item ∙ ap Some (sym a.found.is)) a.given_is (values_have_sorts env v (one_sort k) v_sort) in
        let owns : OwnsSlice false a.sl (operate op.Upd (value_under env t ∷ val.Word a.m ∷ value_under env v ∷ [])) now = record {
          items = slice_set a.has.items a.m x;
          of_list = written;
          as_many = set_length a.has.items a.m x ∙ a.has.as_many;
          cells = subst (λ (j : ℕ). OwnsItems kind.Item a.sl 0 (slice_set a.has.items a.m x) (with_value a.sl j a.old x a.parts.first)) (omega arith) (items_set a.sl 0 a.m a.has.items a.old x a.parts.first a.has.cells);
        } in
        let stands : StandsFor o.preds env (Slice false s (updated t n v)) now =
        slice (subst (λ (z : Value). OwnsSlice false (slice_of z) (value_under env (updated t n v)) now) (sym a.s_is) (subst (λ (z : Value). OwnsSlice false a.sl z now) (sym list_is) owns)) in
        subst (λ (answer : Answer Stepped). Goes o g start below h (goes_on h next h.locals after ∷ []) rest Nothing answer) (sym step) (goes (arrived o (with_cell w object at a.there.cells new) g start (record f { todo = next }) h (goes_on h next h.locals after) rest refl (record {
          env = env;
          piece = later;
          pool = seat.pool;
          locks = seat.locks;
          described = record {
            todo = refl;
            as_many = seat.described.as_many;
            locals = seat.described.locals;
            valuation = seat.described.valuation;
            started = seat.described.started;
            facts = seat.described.facts;
            stands = a.parts.again now later (λ r. omega arith) stands;
          };
          base = base_after o (with_cell w object at a.there.cells new) g h.mode h.bracket later seat.pool seat.locks rest
              (base_with_cell o w g h.mode h.bracket seat.piece later seat.pool seat.locks rest object at a.found.cell new a.there seat.base
              (fits_same (told_item (shape_of o) g w object at a.found.cell new a.there (a.old ∷ []) a.told_so) changed));
          still = still_ended w object at a.found.cell new a.there refl f rest
              (λ target is. writes_same f target e i y place next a.sl a.m is (seat.described.todo ∙ todo) a.s_value a.i_value) seat.still;
        })))
