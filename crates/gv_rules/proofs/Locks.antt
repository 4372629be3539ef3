-- Locking and unlocking a mutex that guards something.
use Rattle.std.proofs.Common.{◌≡◌, ◌≢◌, ℕ, zero, suc, ◌+◌, ◌-◌, ◌<◌, Bool, true, false, not, if◌then◌else◌, List, [], ◌∷◌, ◌++◌, length, Option, Some, None, refl, sym, ap, subst, ◌∙◌, inl, inr, arith}
use Rattle.std.specs.Prelude.{slice_get, slice_set, nat_eq}
use Rattle.std.proofs.lemmas.Option.{slice_get_within}
use Rattle.gv_base.specs.declared.answers.Place.{Place}
use Rattle.gv_base.specs.declared.reason.Reason.TheVariants.{NilUse, UnlockFree}
use Rattle.gv_base.specs.declared.answer.Answer.{Answer}
use Rattle.gv_base.specs.declared.answer.Answer.TheVariants.{Next, Blocked}
use Rattle.gv_base.specs.declared.val.Val.{Val}
use Rattle.gv_base.specs.declared.val.Val.TheVariants as stored
use Rattle.gv_terms.specs.declared.sort.Sort.TheVariants as sort
use Rattle.gv_terms.specs.declared.operator.Operator.TheVariants as op
use Rattle.gv_terms.specs.declared.tree.TermTree.{TermTree}
use Rattle.gv_terms.specs.declared.value.Env.{Env}
use Rattle.gv_terms.specs.declared.value.Value.{Value}
use Rattle.gv_terms.specs.declared.value.Value.TheVariants as val
use Rattle.gv_terms.specs.Trees.{value_under}
use Rattle.gv_terms.proofs.Valued.{value_apply}
use Rattle.gv_terms.proofs.ValueSorts.{values_have_sorts}
use Rattle.gv_world.specs.Answers.{and_then, undefined_if}
use Rattle.gv_world.specs.Store as world
use Rattle.gv_world.specs.Store.{Object, Store as World, with_object}
use Rattle.gv_world.specs.Mutexes.{as_mutex, mutex_of, lock, unlock}
use Rattle.gv_lang.specs.Tree.{Expr, Lock, Unlock, Do, Program}
use Rattle.gv_lang.specs.Todo.{Todo, Run}
use Rattle.gv_lang.specs.Threads.{Frame, Thread}
use Rattle.gv_lang.specs.Table.{as_ref, leaves}
use Rattle.gv_lang.specs.Values.{value}
use Rattle.gv_lang.specs.Step.{Stepped, GoesOn, stepped, settled}
use Rattle.gv_resources.specs.Kinds as kind
use Rattle.gv_resources.specs.Kinds.{Kind}
use Rattle.gv_resources.specs.Pieces.{Resource, Have, Piece, Fits, single, sum_below}
use Rattle.gv_resources.specs.Ghost.{Ghost, Mode}
use Rattle.gv_resources.specs.Told.{Shape, told, under, object_at, cells_in, in_cell, map_in, locked_in, free_mutex, held_mutex, guarded_by, cell_of, object_of, cell_at, only_if}
use Rattle.gv_terms.specs.Values.{bool_eq}
use Rattle.std.specs.Prelude.{◌&&◌}
use Rattle.gv_resources.proofs.Fitting.{retold, retold_test}
use Rattle.gv_resources.proofs.Sums.{number_test}
use Rattle.gv_assertions.specs.Atoms.{Owns, Instance, Predicate}
use Rattle.gv_assertions.specs.Standing.{StandsFor, owns, both, none, valued, owned_key}
use Rattle.gv_assertions.proofs.Lists.{front, parted, more_for, joined}
use Rattle.gv_seats.specs.Paths.{Path, Bracket, number, goes_on, after_step}
use Rattle.gv_seats.specs.Seats.{Proof, shape_of, Seat, Base, CellAt, MapAt, AreOwned, IsInstance, is_marked, map_mark, of_locks}
use Rattle.gv_seats.specs.Changes.{Nothing}
use Rattle.gv_seats.specs.Soundness.{Goes, goes, waits, at_rest}
use Rattle.gv_seats.proofs.Bases.{arrived, still_closed, consistent_objects}
use Rattle.gv_seats.proofs.Instances.{at_values}
use Rattle.gv_seats.proofs.Locals.{set_there, set_elsewhere, set_length}
use Rattle.gv_seats.proofs.Telling.{under_same}
use Rattle.gv_seats.proofs.Expressions.{expressions_law}
use Rattle.gv_rules.proofs.Loads.{as_ref_is, ref_value}
use Rattle.gv_rules.specs.Rows.{locks_mutex, unlocks_mutex}
use Rattle.gv_rules.specs.Laws.{LocksLaw, UnlocksLaw}
use Rattle.gv_resources.proofs.Equality.{single_same, single_within}
use Rattle.gv_resources.proofs.Fitting.{fits_add, fits_remove, fits_same}
use Rattle.gv_resources.proofs.Sums.{changed, sum_split, sum_changed, with_piece, piece_there, piece_elsewhere}

-- ---- a mutex in the heap

pub record HasMutex (w : World) (object : ℕ) (locked : Bool) : Type 0 where
  pub index : ℕ
  pub number : object ≡ suc index
  pub there : slice_get w.objects index ≡ Some (world.Mutex locked)

pub has_mutex : (w : World) (object : ℕ) (locked : Bool) → locked_in (object_at w object) ≡ Some locked → HasMutex w object locked
has_mutex w zero locked e = absurd cc
has_mutex w (suc n) locked e = at (slice_get w.objects n) refl e
  where
    at : (found : Option Object) → found ≡ slice_get w.objects n → locked_in found ≡ Some locked → HasMutex w (suc n) locked
    at (Some (world.Cells cells)) is e = absurd cc
    at (Some (world.Map entries marked)) is e = absurd cc
    at (Some (world.Mutex b)) is e = let same : b ≡ locked = cc in record { index = n; number = refl; there = sym is ∙ ap (λ (x : Bool). Some (world.Mutex x)) same }
    at None is e = absurd cc

numbered : (w : World) (object n : ℕ) (is_nil : Bool) → is_nil ≡ false → object - 1 ≡ n
    → undefined_if is_nil NilUse (as_mutex (slice_get w.objects (object - 1))) ≡ as_mutex (slice_get w.objects n)
numbered w object n false e d = ap (λ k. as_mutex (slice_get w.objects k)) d
numbered w object n true e d = absurd cc

mutex_is : (w : World) (object : ℕ) (locked : Bool) → (h : HasMutex w object locked) → mutex_of w object ≡ Next locked
mutex_is w object locked h =
    ap (mutex_of w) h.number ∙ numbered w (suc h.index) h.index (nat_eq (suc h.index) 0) (grind arith) (omega arith) ∙ ap as_mutex h.there

abbrev pub with_mutex : World → ℕ → Bool → World
with_mutex w object locked = with_object w object (world.Mutex locked)

pub locks_free : (w : World) (object : ℕ) → HasMutex w object false → lock w object ≡ Next (with_mutex w object true)
locks_free w object h = ap (λ (a : Answer Bool). and_then a (λ locked. if locked then Blocked else Next (with_mutex w object true))) (mutex_is w object false h)

pub waits_locked : (w : World) (object : ℕ) → HasMutex w object true → lock w object ≡ Blocked
waits_locked w object h = ap (λ (a : Answer Bool). and_then a (λ locked. if locked then Blocked else Next (with_mutex w object true))) (mutex_is w object true h)

pub unlocks_locked : (w : World) (object : ℕ) → HasMutex w object true → unlock w object ≡ Next (with_mutex w object false)
unlocks_locked w object h = ap (λ (a : Answer Bool). and_then a (λ locked. undefined_if (not locked) UnlockFree (Next (with_mutex w object false)))) (mutex_is w object true h)

-- ---- the heap with a mutex given anew

module _ (w : World) (object : ℕ) (b c : Bool) (h : HasMutex w object b) where
  abbrev after : World
  after = with_mutex w object c

  at_index : (n : ℕ) → object ≡ suc n → object_at after object ≡ slice_get (slice_set w.objects n (world.Mutex c)) n
  at_index n e = rw e (let same : suc n - 1 ≡ n = omega arith in ap (λ (k : ℕ). slice_get (slice_set w.objects k (world.Mutex c)) n) same)

  pub mutex_there : object_at after object ≡ Some (world.Mutex c)
  mutex_there = at_index h.index h.number ∙ set_there w.objects h.index (world.Mutex c) (slice_get_within w.objects h.index (world.Mutex b) h.there)

  mutex_before : object_at w object ≡ Some (world.Mutex b)
  mutex_before = ap (object_at w) h.number ∙ h.there

  pub mutex_elsewhere : (o : ℕ) → o ≢ object → object_at after o ≡ object_at w o
  mutex_elsewhere zero ne = refl
  mutex_elsewhere (suc n) ne = set_elsewhere w.objects (object - 1) n (world.Mutex c) (λ e. ne (let k = h.number in omega (arith, e, k)))

  pub kept_by : {A : Type 0} (of : Option Object → A) → of (Some (world.Mutex c)) ≡ of (Some (world.Mutex b)) → (o : ℕ) → of (object_at after o) ≡ of (object_at w o)
  kept_by of same o = elim (number_test o object) [
    | inl (e, t) ↦ ap (λ x. of (object_at after x)) e ∙ ap of mutex_there ∙ same ∙ sym (ap of mutex_before) ∙ sym (ap (λ x. of (object_at w x)) e)
    | inr (other, t) ↦ ap of (mutex_elsewhere o other)
  ]

  pub objects_as_many : length after.objects ≡ length w.objects
  objects_as_many = set_length w.objects (object - 1) (world.Mutex c)

-- ---- what is told of it

key_of : (key : List Value) (object : ℕ) → object_of key ≡ Some object → key ≡ val.Ref object ∷ []
key_of (val.Ref o ∷ []) object e = let same : o ≡ object = cc in rw same refl
key_of _ object e = absurd cc

free_guarded : (locked : Option Bool) (guard : ℕ × List Value) → free_mutex locked (Some guard) ≡ None
free_guarded None guard = refl
free_guarded (Some true) guard = refl
free_guarded (Some false) guard = refl

module _ (z : Shape) (g : Ghost) (w : World) (object : ℕ) (b c : Bool) (h : HasMutex w object b) (guard : ℕ × List Value) (guards : g.guards object ≡ Some guard) where
  abbrev now : World
  now = with_mutex w object c

  abbrev here : List Value
  here = val.Ref object ∷ []

  held_now : held_mutex (Some c) (Some guard) ≡ told z now g kind.Held here
  held_now = sym (ap (λ x. held_mutex (locked_in x) (g.guards object)) (mutex_there w object b c h) ∙ ap (held_mutex (Some c)) guards)

  held_elsewhere : (key : List Value) → key ≢ here → told z w g kind.Held key ≡ told z now g kind.Held key
  held_elsewhere key ne = at (object_of key) refl
    where
      at : (found : Option ℕ) → found ≡ object_of key → under found (λ o. held_mutex (locked_in (object_at w o)) (g.guards o)) ≡ under found (λ o. held_mutex (locked_in (object_at now o)) (g.guards o))
      at None e = refl
      at (Some o) e = ap (λ x. held_mutex (locked_in x) (g.guards o)) (sym (mutex_elsewhere w object b c h o (λ q. ne (key_of key object (sym e ∙ ap Some q)))))

  frees_same : (o : ℕ) → free_mutex (locked_in (object_at w o)) (g.guards o) ≡ free_mutex (locked_in (object_at now o)) (g.guards o)
  frees_same o = elim (number_test o object) [
    | inl (e, t) ↦ (let same : free_mutex (locked_in (object_at w object)) (g.guards object) ≡ free_mutex (locked_in (object_at now object)) (g.guards object) =
        ap (free_mutex (locked_in (object_at w object))) guards ∙ free_guarded (locked_in (object_at w object)) guard
        ∙ sym (ap (free_mutex (locked_in (object_at now object))) guards ∙ free_guarded (locked_in (object_at now object)) guard) in rw e same)
    | inr (ne, t) ↦ ap (λ x. free_mutex (locked_in x) (g.guards o)) (sym (mutex_elsewhere w object b c h o ne))
  ]

  guards_same : (o : ℕ) → guarded_by (locked_in (object_at w o)) (g.guards o) ≡ guarded_by (locked_in (object_at now o)) (g.guards o)
  guards_same o = elim (number_test o object) [
    | inl (e, t) ↦ (let same : guarded_by (locked_in (object_at w object)) (g.guards object) ≡ guarded_by (locked_in (object_at now object)) (g.guards object) =
        ap (guarded_by (locked_in (object_at w object))) guards ∙ ap (λ x. guarded_by (locked_in x) (Some guard)) (ap (object_at w) h.number ∙ h.there)
        ∙ sym (ap (guarded_by (locked_in (object_at now object))) guards ∙ ap (λ x. guarded_by (locked_in x) (Some guard)) (mutex_there w object b c h)) in rw e same)
    | inr (ne, t) ↦ ap (λ x. guarded_by (locked_in x) (g.guards o)) (sym (mutex_elsewhere w object b c h o ne))
  ]

  cells_same : (frozen sliced : Bool) (o i : ℕ) → cell_at w g frozen sliced o i ≡ cell_at now g frozen sliced o i
  cells_same frozen sliced o i = ap (λ x. only_if (bool_eq (g.frozen o i) frozen && bool_eq (g.sliced o) sliced) (in_cell (slice_get x i))) (sym (kept_by w object b c h cells_in refl o))

  pub told_held : (k : Kind) (key : List Value) → retold (told z w g) kind.Held here (held_mutex (Some c) (Some guard)) k key ≡ told z now g k key
  told_held k key = elim (retold_test (told z w g) kind.Held here (held_mutex (Some c) (Some guard)) k key) [
    | inl (a, b, t) ↦ (let same : held_mutex (Some c) (Some guard) ≡ told z now g k key = rw (a, b) held_now in t ∙ same)
    | inr (ne, t) ↦ t ∙ rest k key ne
  ]
    where
      rest : (k : Kind) (key : List Value) → (k ≡ kind.Held → key ≢ here) → told z w g k key ≡ told z now g k key
      rest kind.Held key ne = held_elsewhere key (ne refl)
      rest kind.Cell key ne = under_same (cell_of key) _ _ (λ k. cells_same false false k.0 k.1)
      rest kind.FrozenCell key ne = under_same (cell_of key) _ _ (λ k. cells_same true false k.0 k.1)
      rest kind.Item key ne = under_same (cell_of key) _ _ (λ k. cells_same false true k.0 k.1)
      rest kind.FrozenItem key ne = under_same (cell_of key) _ _ (λ k. cells_same true true k.0 k.1)
      rest kind.Map key ne = under_same (object_of key) _ _ (λ o. sym (kept_by w object b c h map_in refl o))
      rest kind.Mutex key ne = under_same (object_of key) _ _ frees_same
      rest kind.Lock key ne = under_same (object_of key) _ _ guards_same
      rest _ key ne = refl

-- ---- what a lock says

some_same : {A : Type 0} (x y : A) → Some x ≡ Some y → x ≡ y
some_same x y e = cc

record Guarded (w : World) (g : Ghost) (n pred : ℕ) (values : List Value) : Type 0 where
  locked : Bool
  there : HasMutex w n locked
  guard : ℕ × List Value
  guards : g.guards n ≡ Some guard
  is_pred : guard.0 ≡ pred
  are_values : guard.1 ≡ values

guarded : (w : World) (g : Ghost) (n pred : ℕ) (values : List Value) → guarded_by (locked_in (object_at w n)) (g.guards n) ≡ Some (val.Word pred ∷ values) → Guarded w g n pred values
guarded w g n pred values e = at (locked_in (object_at w n)) (g.guards n) refl refl e
  where
    at : (locked : Option Bool) (guard : Option (ℕ × List Value)) → locked_in (object_at w n) ≡ locked → g.guards n ≡ guard → guarded_by locked guard ≡ Some (val.Word pred ∷ values) → Guarded w g n pred values
    at None guard a b e = absurd cc
    at (Some locked) None a b e = absurd cc
    at (Some locked) (Some guard) a b e =
        let here : List Value = val.Word guard.0 ∷ guard.1 in
        let there : List Value = val.Word pred ∷ values in
        let same : here ≡ there = some_same here there e in
        record { locked = locked; there = has_mutex w n locked a; guard = guard; guards = b; is_pred = cc; are_values = cc }

-- ---- the steps

module _ (program : Program) (extra : ℕ) (w : World) (f : Frame) (below : List Frame) (m : Expr) (place : Place) (next : Todo) (n : ℕ)
    (m_value : value f.locals m ≡ Some (stored.Ref n)) where
  abbrev at : Todo → Frame
  at todo = record f { todo = todo }

  abbrev thread : Frame → Thread
  thread top = record { top = top; below = below; begun = false }

  abbrev behind : World → Answer Stepped
  behind world = Next (GoesOn world (thread (record f { todo = next })) [])

  lock_step : (answer : Answer World) (came : Answer Stepped) → f.todo ≡ Run (Do (Lock m) place) ∷ next → lock w n ≡ answer
      → and_then (leaves f.locals answer) (settled (thread (at (Run (Do (Lock m) place) ∷ next))) w (Some next)) ≡ came → stepped program extra (thread f) w ≡ came
  lock_step answer came is locked so =
      subst (λ (todo : Todo). stepped program extra (thread (at todo)) w ≡ came) (sym is)
      (subst (λ (r : Option Val). and_then (and_then (as_ref r) (λ o. leaves f.locals (lock w o))) (settled (thread (at (Run (Do (Lock m) place) ∷ next))) w (Some next)) ≡ came) (sym m_value)
      (subst (λ (a : Answer World). and_then (leaves f.locals a) (settled (thread (at (Run (Do (Lock m) place) ∷ next))) w (Some next)) ≡ came) (sym locked) so))

  unlock_step : (after : World) → f.todo ≡ Run (Do (Unlock m) place) ∷ next → unlock w n ≡ Next after → stepped program extra (thread f) w ≡ behind after
  unlock_step after is unlocked =
      subst (λ (todo : Todo). stepped program extra (thread (at todo)) w ≡ behind after) (sym is)
      (subst (λ (r : Option Val). and_then (and_then (as_ref r) (λ o. leaves f.locals (unlock w o))) (settled (thread (at (Run (Do (Unlock m) place) ∷ next))) w (Some next)) ≡ behind after) (sym m_value)
      (subst (λ (a : Answer World). and_then (leaves f.locals a) (settled (thread (at (Run (Do (Unlock m) place) ∷ next))) w (Some next)) ≡ behind after) (sym unlocked) refl))

-- ---- the sum of the locks' pieces with one of them given anew

module _ (w : World) (locks : ℕ → Piece) (n : ℕ) (b c : Bool) (h : HasMutex w n b) (p : Piece) (e : Resource) where
  is_counted : n < suc (length w.objects)
  is_counted = let k = h.number in let l = slice_get_within w.objects h.index (world.Mutex b) h.there in omega arith

  locks_before : of_locks w locks e ≡ locks n e + sum_below (suc (length w.objects)) (changed (λ k. locks k e) n 0)
  locks_before = sum_split (suc (length w.objects)) (λ k. locks k e) n is_counted

  locks_after : of_locks (with_mutex w n c) (with_piece locks n p) e ≡ p e + sum_below (suc (length w.objects)) (changed (λ k. locks k e) n 0)
  locks_after = ap (λ k. sum_below (suc k) (λ j. with_piece locks n p j e)) (objects_as_many w n b c h) ∙ sum_changed (suc (length w.objects)) (λ k. locks k e) n (p e) is_counted

-- ---- what else holds with a mutex given anew

base_with_mutex : (o : Proof) (w : World) (g : Ghost) (m : Mode) (bracket : Bracket) (piece later pool : Piece) (locks : ℕ → Piece) (rest : Piece) (n : ℕ) (b c : Bool) (h : HasMutex w n b) (p : Piece)
    → Base o w g m bracket piece pool locks rest
    → Fits (λ e. later e + (pool e + (of_locks (with_mutex w n c) (with_piece locks n p) e + rest e))) (told (shape_of o) (with_mutex w n c) g)
    → (c ≡ false → (guard : ℕ × List Value) → g.guards n ≡ Some guard → IsInstance o.preds guard.0 guard.1 p)
    → Base o (with_mutex w n c) g m (after_step bracket) later pool (with_piece locks n p) rest
base_with_mutex o w g m bracket piece later pool locks rest n b c h p base fits own = record {
  fits = fits;
  mode = base.mode;
  crash = λ shared closed. base.crash shared (still_closed bracket closed);
  free = free;
  consistent = consistent_objects o w g (with_mutex w n c).objects (objects_as_many w n b c h) base.consistent;
}
  where
    free : (object : ℕ) (guard : ℕ × List Value) → g.guards object ≡ Some guard → locked_in (object_at (with_mutex w n c) object) ≡ Some false
        → IsInstance o.preds guard.0 guard.1 (with_piece locks n p object)
    free object guard is unlocked env args values = elim (number_test object n) [
      | inl (e, t) ↦
          let here : locked_in (object_at (with_mutex w n c) n) ≡ Some false = subst (λ k. locked_in (object_at (with_mutex w n c) k) ≡ Some false) e unlocked in
          let is_free : c ≡ false = some_same c false (sym (ap locked_in (mutex_there w n b c h)) ∙ here) in
          let mine = own is_free guard (subst (λ k. g.guards k ≡ Some guard) e is) env args values in
          more_for (λ r. let q : with_piece locks n p object r ≡ p r = rw e (piece_there locks n p r) in omega arith) mine
      | inr (ne, t) ↦
          let before = base.free object guard is (sym (ap locked_in (mutex_elsewhere w n b c h object ne)) ∙ unlocked) env args values in
          more_for (λ r. let q = piece_elsewhere locks n object p r ne in omega arith) before
    ]

still_owned : (w : World) (n : ℕ) (b c : Bool) (h : HasMutex w n b) (rest : Piece) → AreOwned w rest → AreOwned (with_mutex w n c) rest
still_owned w n b c h rest still (CellAt object place) m = still (CellAt object place) (sym (ap (λ x. is_marked (slice_get x place)) (kept_by w n b c h cells_in refl object)) ∙ m)
still_owned w n b c h rest still (MapAt object) m = still (MapAt object) (sym (kept_by w n b c h map_mark refl object) ∙ m)

-- ---- Lock

owned_at : {preds : List Predicate} {env : Env} {k : Kind} {object : TermTree} {values : List TermTree} {p : Piece}
    → owned_key k (value_under env object ∷ []) ≡ value_under env object ∷ [] → StandsFor preds env (Owns k (object ∷ []) values) p
    → 0 < p (Have k (value_under env object ∷ []) (valued env values))
owned_at {env = env} {k = k} {values = values} {p = p} same (owns has) = subst (λ (key : List Value). 0 < p (Have k key (valued env values))) same has

object_key : (x : Value) (n : ℕ) → x ≡ val.Ref n → x ∷ [] ≡ val.Ref n ∷ []
object_key x n e = ap (λ (y : Value). y ∷ []) e

first_is : (env : Env) (pred : ℕ) (args : List TermTree) → valued env (number pred ∷ args) ≡ val.Word pred ∷ valued env args
first_is env pred args = ap (λ (x : Value). x ∷ valued env args) (value_apply env (op.Number pred) [])

held_stands : (preds : List Predicate) (env : Env) (object : TermTree) (n : ℕ) → value_under env object ≡ val.Ref n → StandsFor preds env (Owns kind.Held (object ∷ []) []) (single (Have kind.Held (val.Ref n ∷ []) []))
held_stands preds env object n is =
    owns (subst (λ (x : Value). 0 < single (Have kind.Held (val.Ref n ∷ []) []) (Have kind.Held (x ∷ []) [])) (sym is) (let s = single_same (Have kind.Held (val.Ref n ∷ []) []) in omega arith))

-- the path behind a lock
abbrev pub locked_path : Path → Todo → TermTree → ℕ → List TermTree → Path
locked_path h next object pred args = goes_on h next h.locals (h.atoms ++ Instance pred args ∷ Owns kind.Held (object ∷ []) [] ∷ [])

-- the step of a mutex that guards this, locked or not
locking : (o : Proof) (h : Path) (m : Expr) (object : TermTree) (pred : ℕ) (args : List TermTree) (place : Place) (next : Todo) → h.todo ≡ Run (Do (Lock m) place) ∷ next
    → (program : Program) (extra : ℕ) (w : World) (g : Ghost) (start : Env) (f : Frame) (below : List Frame) (rest : Piece) → (seat : Seat o w g start f h rest) → (n : ℕ)
    → value_under seat.env object ≡ val.Ref n → value f.locals m ≡ Some (stored.Ref n) → (locked : Bool) → (a : Guarded w g n pred (valued seat.env args)) → a.locked ≡ locked
    → Goes o g start below h (locked_path h next object pred args ∷ []) rest Nothing (stepped program extra (at_rest f below) w)
locking o h m object pred args place next todo program extra w g start f below rest seat n object_is m_value true a e =
    let mutex : HasMutex w n true = subst (λ (b : Bool). HasMutex w n b) e a.there in
    let step = lock_step program extra w f below m place next n m_value Blocked Blocked (seat.described.todo ∙ todo) (waits_locked w n mutex) refl in
    subst (λ (answer : Answer Stepped). Goes o g start below h (locked_path h next object pred args ∷ []) rest Nothing answer) (sym step) waits
locking o h m object pred args place next todo program extra w g start f below rest seat n object_is m_value false a e =
    let mutex : HasMutex w n false = subst (λ (b : Bool). HasMutex w n b) e a.there in
    let after = with_mutex w n true in
    let step = lock_step program extra w f below m place next n m_value (Next after) (behind program extra w f below m place next n m_value after) (seat.described.todo ∙ todo) (locks_free w n mutex) refl in
    let held = single (Have kind.Held (val.Ref n ∷ []) []) in
    let later : Piece = λ r. held r + (seat.locks n r + seat.piece r) in
    let without : Piece = λ r. 0 in
    let none_held : told (shape_of o) w g kind.Held (val.Ref n ∷ []) ≡ None =
    ap (λ x. held_mutex x (g.guards n)) (ap locked_in (ap (object_at w) mutex.number ∙ mutex.there)) ∙ ap (held_mutex (Some false)) a.guards in
    let stands : StandsFor o.preds seat.env (Instance pred args) (seat.locks n) =
    subst (λ (k : ℕ). StandsFor o.preds seat.env (Instance k args) (seat.locks n)) a.is_pred
    (seat.base.free n a.guard a.guards (ap locked_in (ap (object_at w) mutex.number ∙ mutex.there)) seat.env args (sym a.are_values)) in
    let fits : Fits (λ r. later r + (seat.pool r + (of_locks after (with_piece seat.locks n without) r + rest r))) _ =
    fits_add kind.Held (val.Ref n ∷ []) [] seat.base.fits none_held (λ q. let z : Some 1 ≡ Some 0 = q in cc)
    (λ r. let x = locks_before w seat.locks n false true mutex without r in let y = locks_after w seat.locks n false true mutex without r in omega arith) in
    subst (λ (answer : Answer Stepped). Goes o g start below h (locked_path h next object pred args ∷ []) rest Nothing answer) (sym step)
    (goes (arrived o after g start (record f { todo = next }) h (locked_path h next object pred args) rest refl (record {
      env = seat.env;
      piece = later;
      pool = seat.pool;
      locks = with_piece seat.locks n without;
      described = record {
        todo = refl;
        as_many = seat.described.as_many;
        locals = seat.described.locals;
        valuation = seat.described.valuation;
        started = seat.described.started;
        facts = seat.described.facts;
        stands = joined {q = λ r. seat.locks n r + held r} (λ r. omega arith) seat.described.stands (both (seat.locks n) held (λ r. omega arith) stands
            (both held (λ r. 0) (λ r. omega arith) (held_stands o.preds seat.env object n object_is) none));
      };
      base = base_with_mutex o w g h.mode h.bracket seat.piece later seat.pool seat.locks rest n false true mutex without seat.base
          (fits_same (told_held (shape_of o) g w n false true mutex a.guard a.guards) fits) (λ q guard is. absurd cc);
      still = still_owned w n false true mutex rest seat.still;
    })))

pub locks_law : LocksLaw
locks_law o h k (locks_mutex m object pred args left place next may todo term object_sort takes) program extra w g start f below rest seat =
    let (ref, m_found, m_is) = expressions_law seat.env h.locals f.locals seat.described.locals m object sort.Ref term object_sort in
    let (n, object_is) = ref_value (value_under seat.env object) (values_have_sorts seat.env object sort.Ref object_sort) in
    let ref_is = as_ref_is ref n (m_is ∙ ap Some object_is) in
    let m_value : value f.locals m ≡ Some (stored.Ref n) = m_found ∙ ap Some ref_is in
    let (q, r, split, stands, others) = parted (front takes seat.described.stands) in
    let has : 0 < q (Have kind.Lock (val.Ref n ∷ []) (val.Word pred ∷ valued seat.env args)) =
    subst (λ (vs : List Value). 0 < q (Have kind.Lock (val.Ref n ∷ []) vs)) (first_is seat.env pred args)
    (subst (λ (key : List Value). 0 < q (Have kind.Lock key (valued seat.env (number pred ∷ args)))) (object_key (value_under seat.env object) n object_is) (owned_at refl stands)) in
    let within = split (Have kind.Lock (val.Ref n ∷ []) (val.Word pred ∷ valued seat.env args)) in
    let a = guarded w g n pred (valued seat.env args) (seat.base.fits.says kind.Lock (val.Ref n ∷ []) (val.Word pred ∷ valued seat.env args) (omega arith)) in
    locking o h m object pred args place next todo program extra w g start f below rest seat n object_is m_value a.locked a refl

-- ---- Unlock

held_there : (w : World) (g : Ghost) (n : ℕ) → held_mutex (locked_in (object_at w n)) (g.guards n) ≡ Some [] → HasMutex w n true
held_there w g n e = at (locked_in (object_at w n)) (g.guards n) refl e
  where
    at : (locked : Option Bool) (guard : Option (ℕ × List Value)) → locked_in (object_at w n) ≡ locked → held_mutex locked guard ≡ Some [] → HasMutex w n true
    at None guard a e = absurd cc
    at (Some false) guard a e = absurd cc
    at (Some true) guard a e = has_mutex w n true a

pub unlocks_law : UnlocksLaw
unlocks_law o h k (unlocks_mutex m object pred args known without left place next may todo term object_sort takes_lock takes_held takes_case) program extra w g start f below rest seat =
    let (ref, m_found, m_is) = expressions_law seat.env h.locals f.locals seat.described.locals m object sort.Ref term object_sort in
    let (n, object_is) = ref_value (value_under seat.env object) (values_have_sorts seat.env object sort.Ref object_sort) in
    let m_value : value f.locals m ≡ Some (stored.Ref n) = m_found ∙ ap Some (as_ref_is ref n (m_is ∙ ap Some object_is)) in
    let (q, r, split, lock_stands, lock_others) = parted (front takes_lock seat.described.stands) in
    let (held, t, held_split, held_is, held_others) = parted (front takes_held seat.described.stands) in
    let (case_piece, u, case_split, case_stands, left_stand) = parted (front takes_case held_others) in
    let key : List Value = val.Ref n ∷ [] in
    let lock_value : List Value = val.Word pred ∷ valued seat.env args in
    let lock_has : 0 < q (Have kind.Lock key lock_value) =
    subst (λ (vs : List Value). 0 < q (Have kind.Lock (val.Ref n ∷ []) vs)) (first_is seat.env pred args)
    (subst (λ (key : List Value). 0 < q (Have kind.Lock key (valued seat.env (number pred ∷ args)))) (object_key (value_under seat.env object) n object_is) (owned_at refl lock_stands)) in
    let held_has : 0 < held (Have kind.Held key []) = subst (λ (key : List Value). 0 < held (Have kind.Held key [])) (object_key (value_under seat.env object) n object_is) (owned_at refl held_is) in
    let lock_within = split (Have kind.Lock key lock_value) in
    let held_within = held_split (Have kind.Held key []) in
    let a = guarded w g n pred (valued seat.env args) (seat.base.fits.says kind.Lock key lock_value (omega arith)) in
    let mutex = held_there w g n (seat.base.fits.says kind.Held key [] (omega arith)) in
    let after = with_mutex w n false in
    let step = unlock_step program extra w f below m place next n m_value after (seat.described.todo ∙ todo) (unlocks_locked w n mutex) in
    let fits : Fits (λ e. u e + (seat.pool e + (of_locks after (with_piece seat.locks n case_piece) e + rest e))) _ =
    fits_remove kind.Held key [] None seat.base.fits refl
    (λ e. let x = locks_before w seat.locks n true false mutex case_piece e in let y = locks_after w seat.locks n true false mutex case_piece e in
    let l = held_split e in let m = case_split e in let s = single_within (Have kind.Held key []) held held_has e in omega arith) in
    subst (λ (answer : Answer Stepped). Goes o g start below h (goes_on h next h.locals left ∷ []) rest Nothing answer) (sym step)
    (goes (arrived o after g start (record f { todo = next }) h (goes_on h next h.locals left) rest refl (record {
      env = seat.env;
      piece = u;
      pool = seat.pool;
      locks = with_piece seat.locks n case_piece;
      described = record {
        todo = refl;
        as_many = seat.described.as_many;
        locals = seat.described.locals;
        valuation = seat.described.valuation;
        started = seat.described.started;
        facts = seat.described.facts;
        stands = left_stand;
      };
      base = base_with_mutex o w g h.mode h.bracket seat.piece u seat.pool seat.locks rest n true false mutex case_piece seat.base
          (fits_same (told_held (shape_of o) g w n true false mutex a.guard a.guards) fits)
          (λ free guard is env given values.
          let same : a.guard ≡ guard = some_same a.guard guard (sym a.guards ∙ is) in
          let is_pred : pred ≡ guard.0 = sym a.is_pred ∙ ap (λ (x : ℕ × List Value). x.0) same in
          let are_values : valued env given ≡ valued seat.env args = values ∙ sym (ap (λ (x : ℕ × List Value). x.1) same) ∙ a.are_values in
          subst (λ (k : ℕ). StandsFor o.preds env (Instance k given) case_piece) is_pred (at_values o.preds seat.env env pred args given case_piece are_values case_stands));
      still = still_owned w n true false mutex rest seat.still;
    })))
