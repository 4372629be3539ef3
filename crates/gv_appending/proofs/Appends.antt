-- Appending to a slice whose cells and spare cells are owned.
use Rattle.std.proofs.Common.{◌≡◌, ℕ, ◌+◌, ◌<◌, ◌≤◌, Bool, true, false, ◌&&◌, nat_eq, nat_lt, List, [], ◌∷◌, ◌++◌, length, Some, refl, sym, ap, subst, ◌∙◌, inr, arith}
use Rattle.std.proofs.Common.{ltb-true}
use Rattle.std.proofs.Math.Nat.{mod-eq_of_lt}
use Rattle.std.proofs.lemmas.List.{length-append, length-map}
use Rattle.gv_base.specs.declared.answers.Place.{Place}
use Rattle.gv_base.specs.declared.answer.Answer.{Answer}
use Rattle.gv_base.specs.declared.answer.Answer.TheVariants.{Next}
use Rattle.gv_base.specs.declared.val.Val.{Val}
use Rattle.gv_base.specs.declared.val.Val.TheVariants as stored
use Rattle.gv_base.specs.declared.slice_val.SliceVal.{SliceVal}
use Rattle.gv_terms.specs.declared.sort.Sort.{Sort}
use Rattle.gv_terms.specs.declared.sort.Sort.TheVariants as sort
use Rattle.gv_terms.specs.declared.operator.Operator.TheVariants as op
use Rattle.gv_terms.specs.declared.tree.TermTree.{TermTree}
use Rattle.gv_terms.specs.declared.value.Env.{Env}
use Rattle.gv_terms.specs.declared.value.Value.{Value}
use Rattle.gv_terms.specs.declared.value.Value.TheVariants as val
use Rattle.gv_terms.specs.declared.var.Var.{Var}
use Rattle.gv_terms.specs.Meaning.{operate, too_long}
use Rattle.gv_terms.specs.Ranges.{IsInRange, IsSlice, numbers_are_words}
use Rattle.gv_terms.specs.Scopes.{is_closed}
use Rattle.gv_terms.specs.Trees.{sort_of, value_under}
use Rattle.gv_terms.specs.Values.{has_sort, slice_of}
use Rattle.gv_terms.proofs.Valued.{value_apply}
use Rattle.gv_terms.proofs.ValueRanges.{values_in_range}
use Rattle.gv_terms.proofs.ValueSorts.{values_have_sorts}
use Rattle.gv_words.specs.Words as words
use Rattle.gv_world.specs.declared.cell.Cell.{Cell}
use Rattle.gv_world.specs.Store as world
use Rattle.gv_world.specs.Store.{Store as World, fresh, with_new}
use Rattle.gv_world.specs.Cells.{with_mark, end_write, is_byte, byte_in}
use Rattle.gv_world.specs.Slices.{same_truth, spare_place, has_spare, longer, is_too_roomy, grown}
use Rattle.gv_lang.specs.declared.program.ItemKind.{ItemKind}
use Rattle.gv_lang.specs.Tree.{Expr, Store, Put, Put64, Append, MapPut, MapDelete, Do, Program}
use Rattle.gv_lang.specs.Todo.{Todo, Run}
use Rattle.gv_lang.specs.Threads.{Frame}
use Rattle.gv_lang.specs.Table.{as_item}
use Rattle.gv_lang.specs.Values.{value}
use Rattle.gv_lang.specs.Step.{Stepped, stepped}
use Rattle.gv_resources.specs.Kinds as kind
use Rattle.gv_resources.specs.Kinds.{Kind}
use Rattle.gv_resources.specs.Pieces.{Resource, Piece, Fits}
use Rattle.gv_resources.specs.Ghost.{Ghost}
use Rattle.gv_resources.specs.Told.{value_of}
use Rattle.gv_resources.proofs.Equality.{single_within}
use Rattle.gv_resources.proofs.Fitting.{fits_same, fits_change}
use Rattle.gv_resources.proofs.Sums.{with_piece}
use Rattle.gv_assertions.specs.Atoms.{Atom, Slice, Spare, Takes, here, there}
use Rattle.gv_assertions.specs.Standing.{StandsFor, StandForAll, slice, spare, both, none, OwnsItems, OwnsSlice, OwnsSpare, IsTrueUnder, cell_key}
use Rattle.gv_assertions.proofs.Lists.{joined}
use Rattle.gv_instances.specs.Agreeing.{AgreeOnVars, AreClosedAtoms}
use Rattle.gv_instances.proofs.Agreeing.{closed_law}
use Rattle.gv_seats.specs.Paths.{Path, number, term_of}
use Rattle.gv_seats.specs.Seats.{Proof, shape_of, Seat, BegunSeat, Described, Target, CellAt, Writes, stores, puts, puts_word, puts_entry, deletes_entry, OwnsTarget, of_locks}
use Rattle.gv_seats.specs.Seats.{appends as writes_spare}
use Rattle.gv_seats.specs.Changes.{Nothing}
use Rattle.gv_seats.specs.Scoping.{IsScoped, AreNew, variable}
use Rattle.gv_seats.specs.Soundness.{Goes, goes, waits, BeginsAt, begins, at_once, at_rest}
use Rattle.gv_seats.proofs.Bases.{arrived, base_after}
use Rattle.gv_seats.proofs.Extending.{with_value, agree_one, new_value, valued_one, described_agree}
use Rattle.gv_seats.proofs.Locals.{have_set, set_length}
use Rattle.gv_seats.proofs.Objects.{has_cell, with_cell, begins_cell, ends_cell, cell_there}
use Rattle.gv_seats.proofs.Telling.{told_same}
use Rattle.gv_rules.specs.Rows.{IsLocal}
use Rattle.gv_rules.proofs.Steps.{with_local}
use Rattle.gv_rules.proofs.Stores.{base_with_cell, still_begun, still_ended}
use Rattle.gv_giving.specs.Rows.{AreKnown}
use Rattle.gv_slicing.specs.Rows.{one_of, equal, less, list_sort}
use Rattle.gv_slicing.proofs.Fresh.{next_object, fresh_is, sliced_too, sliced_changes, untouched_is, base_grown, still_grown}
use Rattle.gv_slicing.proofs.Owned.{item_told}
use Rattle.gv_slicing.proofs.Truths.{facts_join, number_value, equal_true, one_value}
use Rattle.gv_putting.specs.Rows.{one_sort}
use Rattle.gv_appending.specs.Rows.{appends, most_items, maker, with_one, one_more, appended_path}
use Rattle.gv_appending.specs.Laws.{AppendsLaw}
use Rattle.gv_putting.proofs.Values.{items_long}
use Rattle.gv_putting.proofs.Cells.{cell, without_cell, with_cell_too, items_more, spare_less}
use Rattle.gv_putting.proofs.Told.{told_item}
use Rattle.gv_appending.proofs.Terms.{term_closed}
use Rattle.gv_appending.proofs.SliceReads.{free_cell, free_items, reads}
use Rattle.gv_appending.proofs.Grown.{grown_free, low, high, low_high, new_slice, owned, owns_low, owns_high}
use Rattle.gv_appending.proofs.Operands.{Operands, operands, Parts, parts}
use Rattle.gv_appending.proofs.Spares.{spare_within, byte_here, kept_written, grows_to, has_room, no_room, first_step, second_step, grow_waits, grow_step}

-- ---- closed lists

taken_closed : (vars : List Var) {all left : List Atom} {a : Atom} → Takes all a left → AreClosedAtoms vars all → AreClosedAtoms vars left
taken_closed vars here c = c.1
taken_closed vars (there t) c = (c.0, taken_closed vars t c.1)

list_closed : (vars : List Var) {all left : List Atom} {s t : TermTree} → Takes all (Slice false s t) left → AreClosedAtoms vars all → is_closed vars t ≡ true
list_closed vars here c = c.0.1
list_closed vars (there r) c = list_closed vars r c.1

-- ---- how long the list is

few : (env : Env) (t : TermTree) (all : List Value) → operate op.Len (value_under env t ∷ []) ≡ val.Word (length all) → IsTrueUnder env (less (one_of op.Len t) (number most_items)) → length all < most_items
few env t all long truth =
    let both : operate op.Less (val.Word (length all) ∷ val.Word most_items ∷ []) ≡ val.Bool true =
    sym (value_apply env op.Less (one_of op.Len t ∷ number most_items ∷ [])
    ∙ ap (λ (v : Value). operate op.Less (v ∷ value_under env (number most_items) ∷ [])) (value_apply env op.Len (t ∷ []) ∙ long)
    ∙ ap (λ (v : Value). operate op.Less (val.Word (length all) ∷ v ∷ [])) (number_value env most_items)) ∙ truth in
    let test : nat_lt (length all) most_items ≡ true = cc in
    ltb-true (length all) most_items test

fits_in : (n : ℕ) → n < most_items → n + 1 < too_long
fits_in n l = omega (arith, l)

same_numbers : (m n : ℕ) → m ≡ n → nat_eq m n ≡ true
same_numbers m n e = grind arith

plus_one : (m n : ℕ) → m ≡ n + 1 → n < most_items → nat_eq m (words.plus n 1) ≡ true
plus_one m n e l =
    let small : (n + 1) < words.words = omega (arith, l) in
    same_numbers m (words.plus n 1) (e ∙ sym (mod-eq_of_lt small))

owns_longer : (s : SliceVal) (place : ℕ) (items : List Value) (p : Piece) → OwnsItems kind.Item s place items p → OwnsItems kind.Item (longer s) place items p
owns_longer s place [] p h = tt
owns_longer s place (v ∷ items) p h = (h.0, owns_longer s (place + 1) items p h.1)

-- ---- what is written

same_append : (f : Frame) (x y : ℕ) (k l : ItemKind) (e v s u : Expr) (place at : Place) (next after : Todo) (sl second : SliceVal) (kept other : Val)
    → f.todo ≡ Run (Do (Append x k e v) place) ∷ next → f.todo ≡ Run (Do (Append y l s u) at) ∷ after → value f.locals e ≡ Some (stored.Slice sl) → value f.locals s ≡ Some (stored.Slice second)
    → as_item k (value f.locals v) ≡ Next kept → as_item l (value f.locals u) ≡ Next other → (sl ≡ second) × (kept ≡ other)
same_append f x y k l e v s u place at next after sl second kept other is todo found other_found item other_item =
    let same : Run (Do (Append x k e v) place) ∷ next ≡ Run (Do (Append y l s u) at) ∷ after = sym is ∙ todo in
    let same_s : e ≡ s = cc in
    let same_k : k ≡ l = cc in
    let same_v : v ≡ u = cc in
    let slice_same : Some (stored.Slice sl) ≡ Some (stored.Slice second) = sym found ∙ ap (value f.locals) same_s ∙ other_found in
    let kept_same : Next kept ≡ Next other = sym item ∙ ap (λ (z : ItemKind). as_item z (value f.locals v)) same_k ∙ ap (λ (z : Expr). as_item l (value f.locals z)) same_v ∙ other_item in
    let a : sl ≡ second = cc in
    let b : kept ≡ other = cc in
    (a, b)

-- what a frame writes whose next command is an append is the first spare cell
writes_same : (f : Frame) (t : Target) (x : ℕ) (k : ItemKind) (e y : Expr) (at : Place) (next : Todo) (sl : SliceVal) → Writes f t → f.todo ≡ Run (Do (Append x k e y) at) ∷ next
    → value f.locals e ≡ Some (stored.Slice sl) → t ≡ CellAt sl.object (spare_place sl)
writes_same f _ x k e y where_at next sl (writes_spare x' item' s' v' at' next' slice' is a) todo found =
    let same : Run (Do (Append x' item' s' v') at') ∷ next' ≡ Run (Do (Append x k e y) where_at) ∷ next = sym is ∙ todo in
    let same_s : s' ≡ e = cc in
    let slice_same : Some (stored.Slice slice') ≡ Some (stored.Slice sl) = sym a ∙ ap (value f.locals) same_s ∙ found in
    let is_slice : slice' ≡ sl = cc in
    ap (λ (z : SliceVal). CellAt z.object (spare_place z)) is_slice
writes_same f _ x k e y where_at next sl (stores p' of' place' e' at' next' object' is a) todo found =
    (let never : Run (Do (Store p' of' place' e') at') ∷ next' ≡ Run (Do (Append x k e y) where_at) ∷ next = sym is ∙ todo in absurd cc)
writes_same f _ x k e y where_at next sl (puts s' i' v' at' next' slice' n' is a b) todo found =
    (let never : Run (Do (Put s' i' v') at') ∷ next' ≡ Run (Do (Append x k e y) where_at) ∷ next = sym is ∙ todo in absurd cc)
writes_same f _ x k e y where_at next sl (puts_word s' v' at' next' slice' n' is a b) todo found =
    (let never : Run (Do (Put64 s' v') at') ∷ next' ≡ Run (Do (Append x k e y) where_at) ∷ next = sym is ∙ todo in absurd cc)
writes_same f _ x k e y where_at next sl (puts_entry m' k' v' at' next' object' is a) todo found =
    (let never : Run (Do (MapPut m' k' v') at') ∷ next' ≡ Run (Do (Append x k e y) where_at) ∷ next = sym is ∙ todo in absurd cc)
writes_same f _ x k e y where_at next sl (deletes_entry m' k' at' next' object' is a b) todo found =
    (let never : Run (Do (MapDelete m' k') at') ∷ next' ≡ Run (Do (Append x k e y) where_at) ∷ next = sym is ∙ todo in absurd cc)

-- ---- the law

module _ (o : Proof) (h : Path) (x : ℕ) (k : ItemKind) (e y : Expr) (s t v : TermTree) (without left : List Atom) (q : Var) (place : Place) (next : Todo)
    (todo : h.todo ≡ Run (Do (Append x k e y) place) ∷ next) (local : IsLocal h x) (e_term : term_of h.locals e ≡ Some s) (s_sort : sort_of s ≡ Some sort.SliceS)
    (s_words : numbers_are_words s ≡ true) (y_term : term_of h.locals y ≡ Some v) (v_sort : sort_of v ≡ Some (one_sort k)) (t_sort : sort_of t ≡ Some (list_sort k))
    (takes : Takes h.atoms (Slice false s t) without) (takes_spare : Takes without (Spare s) left) (known : AreKnown h (less (one_of op.Len t) (number most_items) ∷ []))
    (q_sort : q.sort ≡ sort.SliceS) (q_new : AreNew h.vars (q ∷ [])) (scoped : IsScoped h) where
  abbrev after : Path
  after = appended_path h next x left q t k v

  abbrev found_at : Frame → Env → Type 0
  found_at f env = Operands k e y s v f env

  found : (start : Env) (f : Frame) (env : Env) (piece : Piece) → Described o.preds start env h f piece → found_at f env
  found start f env piece d = operands k e y s v f env h.locals d.locals e_term s_sort y_term v_sort

  split : (start : Env) (f : Frame) (env : Env) (piece : Piece) (d : Described o.preds start env h f piece) (ops : found_at f env) → Parts o.preds env ops.sl t left piece
  split start f env piece d ops = parts s t ops.sl ops.s_is takes takes_spare d.stands

  -- the list of old items, and the slice itself
  record Known (f : Frame) (env : Env) (ops : found_at f env) (all : List Value) : Type 0 where
    pub long : operate op.Len (value_under env t ∷ []) ≡ val.Word (length all)
    pub few : length all < most_items
    pub can : IsSlice ops.sl

  knows : (start : Env) (f : Frame) (env : Env) (piece : Piece) (d : Described o.preds start env h f piece) (ops : found_at f env) (ps : Parts o.preds env ops.sl t left piece) → Known f env ops ps.has.items
  knows start f env piece d ops ps =
      let truths = known env d.valuation d.facts in
      let long = items_long (value_under env t) ps.has.items ps.has.of_list in
      record {
        long = long;
        few = few env t ps.has.items long truths.0;
        can = subst IsInRange ops.s_is (values_in_range env s sort.SliceS d.valuation s_sort s_words);
      }

  -- a frame with the result stands at the path behind
  described_after : (start : Env) (f : Frame) (env : Env) (piece : Piece) (d : Described o.preds start env h f piece) (ops : found_at f env) (all : List Value)
      → operate op.Len (value_under env t ∷ []) ≡ val.Word (length all) → length all < most_items
      → (sl : SliceVal) → IsSlice sl → sl.length ≡ length all + 1 → (mine spares others whole : Piece) → ((r : Resource) → others r + (mine r + spares r) ≤ whole r)
      → OwnsSlice false sl (operate op.Cat (value_under env t ∷ operate (maker k 1) (value_under env v ∷ []) ∷ [])) mine → OwnsSpare sl spares → StandForAll o.preds env left others
      → Described o.preds start (with_value env q (val.SliceS sl)) after (with_local f x (stored.Slice sl) next) whole
  described_after start f env piece d ops all long short sl can as_long mine spares others whole split owns owns_spare stands =
      let now : Env = with_value env q (val.SliceS sl) in
      let same : AgreeOnVars env now h.vars = agree_one h.vars env q (val.SliceS sl) q_new.0 in
      let before = described_agree o.preds start env now h f piece scoped same (valued_one env q (val.SliceS sl) can d.valuation) d in
      let q_is : value_under now (variable q) ≡ val.SliceS sl = new_value env q (val.SliceS sl) (ap (λ (r : Sort). has_sort (val.SliceS sl) r) q_sort) in
      let t_is : value_under now t ≡ value_under env t = sym ((closed_law h.vars env now).value same t (list_closed h.vars takes scoped.atoms)) in
      let v_is : value_under now v ≡ value_under env v = sym ((closed_law h.vars env now).value same v (term_closed h.vars h.locals scoped.locals y v y_term)) in
      let list_is : value_under now (with_one t k v) ≡ operate op.Cat (value_under env t ∷ operate (maker k 1) (value_under env v ∷ []) ∷ []) =
      value_apply now op.Cat (t ∷ one_of (maker k 1) v ∷ []) ∙ ap (λ (z : Value). operate op.Cat (z ∷ value_under now (one_of (maker k 1) v) ∷ [])) t_is
      ∙ ap (λ (z : Value). operate op.Cat (value_under env t ∷ z ∷ [])) (one_value now (maker k 1) v (value_under env v) v_is) in
      let len_is : value_under now (one_of op.Len t) ≡ val.Word (length all) = one_value now op.Len t (value_under env t) t_is ∙ long in
      let more_is : value_under now (one_more (one_of op.Len t)) ≡ val.Word (words.plus (length all) 1) =
      value_apply now op.Plus (one_of op.Len t ∷ number 1 ∷ []) ∙ ap (λ (z : Value). operate op.Plus (z ∷ value_under now (number 1) ∷ [])) len_is
      ∙ ap (λ (z : Value). operate op.Plus (val.Word (length all) ∷ z ∷ [])) (number_value now 1) in
      let truth : IsTrueUnder now (equal (one_of op.SLen (variable q)) (one_more (one_of op.Len t))) =
      equal_true now (one_of op.SLen (variable q)) (one_more (one_of op.Len t)) (val.Word sl.length) (val.Word (words.plus (length all) 1))
      (one_value now op.SLen (variable q) (val.SliceS sl) q_is) more_is (plus_one sl.length (length all) as_long short) in
      let slice_stands : StandsFor o.preds now (Slice false (variable q) (with_one t k v)) mine =
      slice (subst (λ (z : Value). OwnsSlice false (slice_of z) (value_under now (with_one t k v)) mine) (sym q_is) (subst (λ (z : Value). OwnsSlice false sl z mine) (sym list_is) owns)) in
      let spare_stands : StandsFor o.preds now (Spare (variable q)) spares = spare (subst (λ (z : Value). OwnsSpare (slice_of z) spares) (sym q_is) owns_spare) in
      let left_stand : StandForAll o.preds now left others = (closed_law h.vars env now).stands same o.preds left others (taken_closed h.vars takes_spare (taken_closed h.vars takes scoped.atoms)) stands in
      record {
        todo = refl;
        as_many = set_length f.locals x (stored.Slice sl) ∙ d.as_many ∙ sym (set_length h.locals x (Some (variable q)));
        locals = have_set now h.locals f.locals x (variable q) (stored.Slice sl) before.locals before.as_many local (ap Some (sym q_is));
        valuation = before.valuation;
        started = before.started;
        facts = facts_join now h.facts (equal (one_of op.SLen (variable q)) (one_more (one_of op.Len t)) ∷ []) before.facts (truth, tt);
        stands = joined {q = λ r. mine r + spares r} split left_stand (both mine spares (λ r. omega arith) slice_stands (both spares (λ r. 0) (λ r. omega arith) spare_stands none));
      }

  -- ---- with a spare cell

  begins_it : (program : Program) (extra : ℕ) (w : World) (g : Ghost) (start : Env) (f : Frame) (below : List Frame) (rest : Piece) (seat : Seat o w g start f h rest)
      (ops : found_at f seat.env) → has_spare w ops.sl ops.single.kept ≡ true → BeginsAt o g start below h (after ∷ []) rest (stepped program extra (at_rest f below) w)
  begins_it program extra w g start f below rest seat ops is =
      let ps = split start f seat.env seat.piece seat.described ops in
      let sl = ops.sl in
      let kept = ops.single.kept in
      let object : ℕ = sl.object in
      let at : ℕ = spare_place sl in
      let whole : Piece = λ r. seat.piece r + (seat.pool r + (of_locks w seat.locks r + rest r)) in
      let (old, owned) = ps.has_spare sl.length (omega arith) (spare_within w sl kept is) in
      let free = free_cell (shape_of o) w g whole seat.base.fits sl ps.spares rest (λ r. let a = ps.split r in omega arith) seat.still sl.length old owned in
      let there = has_cell w object at free.cell free.there in
      let marked : Cell = with_mark true free.cell in
      let now : World = with_cell w object at there.cells marked in
      let begun = begins_cell w object at free.cell there free.unmarked in
      let is_todo : f.todo ≡ Run (Do (Append x k e y) place) ∷ next = seat.described.todo ∙ todo in
      let step = first_step program extra w f below x k e y place next sl kept is_todo ops.s_value ops.kept_is now is begun in
      let there_now = has_cell now object at marked (cell_there w object at free.cell marked there) in
      let same_byte : is_byte now object at ≡ is_byte w object at = byte_here now object at marked there_now ∙ sym (byte_here w object at free.cell there) in
      let is_now : has_spare now sl kept ≡ true = ap (λ (b : Bool). nat_lt sl.length sl.capacity && same_truth b (byte_in kept)) same_byte ∙ is in
      let within = ps.split (cell sl sl.length old) in
      let mine : OwnsTarget seat.piece (CellAt object at) = inr (old ∷ [], omega (arith, within, owned)) in
      subst (λ (answer : Answer Stepped). BeginsAt o g start below h (after ∷ []) rest answer) (sym step) (begins (record {
        env = seat.env;
        piece = seat.piece;
        pool = seat.pool;
        locks = seat.locks;
        described = seat.described;
        base = base_with_cell o w g h.mode h.bracket seat.piece seat.piece seat.pool seat.locks rest object at free.cell marked there seat.base
            (fits_same (told_same (shape_of o) g w object at free.cell marked there refl free.there) seat.base.fits);
        mine = λ target writes. subst (λ (z : Target). OwnsTarget seat.piece z) (sym (writes_same f target x k e y place next sl writes is_todo ops.s_value)) mine;
        still = still_begun w object at free.cell marked there f rest (writes_spare x k e y place next sl is_todo ops.s_value) seat.still;
        spare = λ x' k' s' v' at' next' slice' other is' found' kept'.
            let both = same_append f x x' k k' e y s' v' place at' next next' sl slice' kept other is_todo is' ops.s_value found' ops.kept_is kept' in
            subst (λ (z : SliceVal). has_spare now z other ≡ true) both.0 (subst (λ (z : Val). has_spare now sl z ≡ true) both.1 is_now);
      }))

  ends_it : (program : Program) (extra : ℕ) (w : World) (g : Ghost) (start : Env) (f : Frame) (below : List Frame) (rest : Piece) → BegunSeat o w g start f h rest
      → Goes o g start below h (after ∷ []) rest Nothing (stepped program extra (record { top = f; below = below; begun = true }) w)
  ends_it program extra w g start f below rest seat =
      let env = seat.env in
      let ops = found start f env seat.piece seat.described in
      let ps = split start f env seat.piece seat.described ops in
      let ks = knows start f env seat.piece seat.described ops ps in
      let sl = ops.sl in
      let kept = ops.single.kept in
      let object : ℕ = sl.object in
      let at : ℕ = spare_place sl in
      let is_todo : f.todo ≡ Run (Do (Append x k e y) place) ∷ next = seat.described.todo ∙ todo in
      let is = seat.spare x k e y place next sl kept is_todo ops.s_value ops.kept_is in
      let room = spare_within w sl kept is in
      let (old, owned) = ps.has_spare sl.length (omega arith) room in
      let within = ps.split (cell sl sl.length old) in
      let has : 0 < seat.piece (cell sl sl.length old) = omega (arith, within, owned) in
      let told_so = seat.base.fits.says kind.Item (cell_key sl sl.length) (old ∷ []) (omega (arith, has)) in
      let found_cell = item_told (shape_of o) w g false object at old told_so in
      let there = has_cell w object at found_cell.cell found_cell.there in
      let new : Cell = record { value = kept; marked = false } in
      let now : World = with_cell w object at there.cells new in
      let ended : end_write w object at (kept ∷ []) ≡ Next now = ends_cell w object at found_cell.cell kept there
      ∙ ap (λ (u : Val). Next (with_cell w object at there.cells (record { value = u; marked = false }))) (kept_written w sl kept found_cell.cell there is) in
      let step = second_step program extra w f below x k e y place next sl kept is_todo ops.s_value ops.kept_is now ended in
      let item : Value = value_of kept in
      let mine : Piece = with_cell_too sl sl.length item ps.mine in
      let spares : Piece = without_cell sl sl.length old ps.spares in
      let others : Piece = ps.others in
      let later : Piece = λ r. others r + (mine r + spares r) in
      let changed : Fits (λ r. later r + (seat.pool r + (of_locks w seat.locks r + rest r))) _ =
      fits_change kind.Item (cell_key sl sl.length) (old ∷ []) (item ∷ []) seat.base.fits refl
      (λ r. let l = ps.split r in let one = single_within (cell sl sl.length old) ps.spares owned r in omega arith) (omega (arith, has)) in
      let long : length ps.has.items ≡ sl.length = ps.has.as_many in
      let from_none : 0 + length ps.has.items ≡ sl.length = omega (arith, long) in
      let owns : OwnsSlice false (longer sl) (operate op.Cat (value_under env t ∷ operate (maker k 1) (value_under env v ∷ []) ∷ [])) mine = record {
        items = ps.has.items ++ item ∷ [];
        of_list = ops.single.joins (value_under env t) ps.has.items (values_have_sorts env t (list_sort k) t_sort) ps.has.of_list (fits_in (length ps.has.items) ks.few);
        as_many = length-append ps.has.items (item ∷ []) ∙ ap (λ (n : ℕ). n + 1) long;
        cells = owns_longer sl 0 (ps.has.items ++ item ∷ []) mine (subst (λ (n : ℕ). OwnsItems kind.Item sl 0 (ps.has.items ++ item ∷ []) (with_cell_too sl n item ps.mine)) from_none
            (items_more sl 0 ps.has.items item ps.mine ps.has.cells));
      } in
      let can : IsSlice (longer sl) = (ks.can.0, omega (arith, room)) in
      let described = described_after start f env seat.piece seat.described ops ps.has.items ks.long ks.few (longer sl) can (ap (λ (n : ℕ). n + 1) (sym long)) mine spares others later (λ r. omega arith)
      owns (spare_less sl old ps.spares ps.has_spare) ps.stands in
      subst (λ (answer : Answer Stepped). Goes o g start below h (after ∷ []) rest Nothing answer) (sym step)
      (goes (arrived o now g start (with_local f x (stored.Slice (longer sl)) next) h after rest refl (record {
        env = with_value env q (val.SliceS (longer sl));
        piece = later;
        pool = seat.pool;
        locks = seat.locks;
        described = described;
        base = base_after o now g h.mode h.bracket later seat.pool seat.locks rest
            (base_with_cell o w g h.mode h.bracket seat.piece later seat.pool seat.locks rest object at found_cell.cell new there seat.base
            (fits_same (told_item (shape_of o) g w object at found_cell.cell new there (old ∷ []) told_so) changed));
        still = still_ended w object at found_cell.cell new there refl f rest (λ target writes. writes_same f target x k e y place next sl writes is_todo ops.s_value) seat.still;
      })))

  -- ---- without one

  grows : (program : Program) (extra : ℕ) (w : World) (g : Ghost) (start : Env) (f : Frame) (below : List Frame) (rest : Piece) (seat : Seat o w g start f h rest)
      (ops : found_at f seat.env) → has_spare w ops.sl ops.single.kept ≡ false → (roomy : Bool) → is_too_roomy ops.sl extra ≡ roomy
      → Goes o g start below h (after ∷ []) rest Nothing (stepped program extra (at_rest f below) w)
  grows program extra w g start f below rest seat ops is true roomy =
      let step = grow_waits program extra w f below x k e y place next ops.sl ops.single.kept (seat.described.todo ∙ todo) ops.s_value ops.kept_is is (no_room w ops.sl ops.single.kept extra roomy) in
      subst (λ (answer : Answer Stepped). Goes o g start below h (after ∷ []) rest Nothing answer) (sym step) waits
  grows program extra w g start f below rest seat ops is false roomy =
      let env = seat.env in
      let ps = split start f env seat.piece seat.described ops in
      let ks = knows start f env seat.piece seat.described ops ps in
      let sl = ops.sl in
      let kept = ops.single.kept in
      let whole : Piece = λ r. seat.piece r + (seat.pool r + (of_locks w seat.locks r + rest r)) in
      let items : List Value = ps.has.items in
      let long : length items ≡ sl.length = ps.has.as_many in
      let short : sl.length + 1 < too_long = subst (λ (n : ℕ). n + 1 < too_long) long (fits_in (length items) ks.few) in
      let read = reads w sl items long (free_items (shape_of o) w g whole seat.base.fits sl ps.mine rest (λ r. let a = ps.split r in omega arith) seat.still items ps.has.cells) in
      let cells : List Cell = grown read.cells kept extra in
      let object : ℕ = next_object w in
      let made = new_slice object sl extra in
      let answer = grows_to w sl kept extra read.cells roomy short read.is ∙ ap (λ (n : ℕ). Next (with_new w (world.Cells cells), new_slice n sl extra)) (fresh_is w) in
      let step = grow_step program extra w f below x k e y place next sl kept (seat.described.todo ∙ todo) ops.s_value ops.kept_is (with_new w (world.Cells cells), made) is answer in
      let untouched = untouched_is o w g cells seat.base.consistent in
      let as_long : length read.cells ≡ sl.length = sym (length-map read.cells (λ (c : Cell). value_of c.value)) ∙ ap (λ (vs : List Value). length vs) read.values ∙ long in
      let new : Piece = owned (shape_of o) w g read.cells kept extra sl as_long untouched in
      let mine : Piece = low (sl.length + 1) new in
      let spares : Piece = high (sl.length + 1) new in
      let others : Piece = ps.others in
      let later : Piece = λ r. seat.piece r + new r in
      let item : Value = value_of kept in
      let owns : OwnsSlice false made (operate op.Cat (value_under env t ∷ operate (maker k 1) (value_under env v ∷ []) ∷ [])) mine = record {
        items = items ++ item ∷ [];
        of_list = ops.single.joins (value_under env t) items (values_have_sorts env t (list_sort k) t_sort) ps.has.of_list (fits_in (length items) ks.few);
        as_many = length-append items (item ∷ []) ∙ ap (λ (n : ℕ). n + 1) long;
        cells = subst (λ (vs : List Value). OwnsItems kind.Item made 0 (vs ++ item ∷ []) mine) read.values (owns_low (shape_of o) w g read.cells kept extra sl as_long untouched);
      } in
      let room : sl.length + 1 + extra < too_long = has_room sl extra roomy short in
      let can : IsSlice made = (omega (arith, room), omega arith) in
      let described = described_after start f env seat.piece seat.described ops items ks.long ks.few made can (ap (λ (n : ℕ). n + 1) (sym long)) mine spares others later
      (λ r. let a = ps.split r in let b = low_high (sl.length + 1) new r in omega arith) owns (owns_high (shape_of o) w g read.cells kept extra sl as_long untouched) ps.stands in
      subst (λ (answer : Answer Stepped). Goes o g start below h (after ∷ []) rest Nothing answer) (sym step)
      (goes (record {
        after = sliced_too g object;
        changed = sliced_changes g object;
        path = after;
        place = 0;
        among = refl;
        procedure = refl;
        seat = record {
          env = with_value env q (val.SliceS made);
          piece = later;
          pool = seat.pool;
          locks = with_piece seat.locks object (λ r. 0);
          described = described;
          base = base_grown o w g cells seat.base.consistent h.mode h.bracket seat.piece seat.pool seat.locks rest seat.base;
          still = still_grown o w g cells seat.base.consistent rest (grown_free read.cells kept extra) seat.still;
        };
      }))

  begins_or_grows : (program : Program) (extra : ℕ) (w : World) (g : Ghost) (start : Env) (f : Frame) (below : List Frame) (rest : Piece) → Seat o w g start f h rest
      → BeginsAt o g start below h (after ∷ []) rest (stepped program extra (at_rest f below) w)
  begins_or_grows program extra w g start f below rest seat = go (has_spare w ops.sl ops.single.kept) refl
    where
      ops : found_at f seat.env
      ops = found start f seat.env seat.piece seat.described

      go : (b : Bool) → has_spare w ops.sl ops.single.kept ≡ b → BeginsAt o g start below h (after ∷ []) rest (stepped program extra (at_rest f below) w)
      go true is = begins_it program extra w g start f below rest seat ops is
      go false is = at_once (grows program extra w g start f below rest seat ops is (is_too_roomy ops.sl extra) refl)

pub appends_law : AppendsLaw
appends_law o h _ (appends x k e y s t v without left q place next may todo local e_term s_sort s_words y_term v_sort t_sort takes takes_spare known q_sort q_new) scoped = record {
  begin = begins_or_grows o h x k e y s t v without left q place next todo local e_term s_sort s_words y_term v_sort t_sort takes takes_spare known q_sort q_new scoped;
  end = ends_it o h x k e y s t v without left q place next todo local e_term s_sort s_words y_term v_sort t_sort takes takes_spare known q_sort q_new scoped;
}
