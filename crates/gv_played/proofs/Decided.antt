-- A schedule comes to one run, or to too many live cells at one line.
use Rattle.std.proofs.Common.{◌≡◌, ◌⊎◌, inl, inr, ℕ, zero, suc, ◌<◌, true, false, List, [], ◌∷◌, ◌++◌, take, map, Option, Some, None, refl, sym, ap, subst, ◌∙◌, arith}
use Rattle.std.specs.Prelude.{slice_get}
use Rattle.gv_base.specs.declared.answer.Answer.TheVariants.{Undefined}
use Rattle.gv_base.specs.declared.answers.Place.{Place}
use Rattle.gv_base.specs.declared.reason.Reason.{Reason}
use Rattle.gv_lang.specs.Tree.{Program}
use Rattle.gv_terms.specs.declared.value.Value.{Value}
use Rattle.gv_atomic.specs.declared.spec.Spec.{Spec}
use Rattle.gv_spec.specs.declared.entry.Entry as held
use Rattle.gv_spec.specs.declared.entry.Entry.TheVariants as held_entry
use Rattle.gv_spec.specs.Atomic.{atomic_of}
use Rattle.gv_spec.specs.Entry as entry
use Rattle.gv_spec.specs.Event.{Event}
use Rattle.gv_spec.specs.History.{entry_of}
use Rattle.gv_runs.specs.Machine.{machine_of, setting_of}
use Rattle.gv_machine.specs.Outcomes.{leaves_too_many}
use Rattle.gv_replay.specs.declared.schedule.Line.{Line}
use Rattle.gv_played.specs.declared.replaying.Ran.{Ran}
use Rattle.gv_played.specs.Laws.{OneRun, OneLine, NotBoth}
use Rattle.gv_played.specs.Played.{events_of, place_of, run, outcome, AreWithin, IsUndefinedAt, IsUndefined, IsRan, IsTooMany}
use Rattle.gv_played.proofs.Stuck.{nothing_behind, broken}

-- ---- places in lists

some_same : {A : Type 0} (x y : A) (o : Option A) → o ≡ Some x → o ≡ Some y → x ≡ y
some_same x y o h k = let same : Some x ≡ Some y = sym h ∙ k in cc

none_some : {A : Type 0} (x : A) (o : Option A) → o ≡ None → o ≡ Some x → ⊥
none_some x o h k = let clash : None ≡ Some x = sym h ∙ k in cc

compared : (a b : ℕ) → (a < b) ⊎ ((b < a) ⊎ (a ≡ b))
compared zero zero = inr (inr refl)
compared zero (suc b) = inl (omega arith)
compared (suc a) zero = inr (inl (omega arith))
compared (suc a) (suc b) =
    elim (compared a b) [
      | inl less ↦ inl (omega (arith, less))
      | inr (inl more) ↦ inr (inl (omega (arith, more)))
      | inr (inr same) ↦ inr (inr (ap suc same))
    ]

-- what stands behind an item
parted : {A : Type 0} (xs : List A) (n : ℕ) (x : A) → slice_get xs n ≡ Some x → (more : List A) × (xs ≡ take n xs ++ x ∷ more)
parted [] n x h = absurd cc
parted (z ∷ xs) zero x h = let same : z ≡ x = cc in (xs, ap (λ y. y ∷ xs) same)
parted (z ∷ xs) (suc n) x h = let rest = parted xs n x h in (rest.0, ap (λ ys. z ∷ ys) rest.1)

-- an item that stands before another place
earlier : {A : Type 0} (xs : List A) (n m : ℕ) (x : A) → n < m → slice_get xs n ≡ Some x → (more : List A) × (take m xs ≡ take n xs ++ x ∷ more)
earlier [] n m x l h = absurd cc
earlier (z ∷ xs) n zero x l h = absurd (omega (arith, l))
earlier (z ∷ xs) zero (suc m) x l h = let same : z ≡ x = cc in (take m xs, ap (λ y. y ∷ take m xs) same)
earlier (z ∷ xs) (suc n) (suc m) x l h = let rest = earlier xs n m x (omega (arith, l)) h in (rest.0, ap (λ ys. z ∷ ys) rest.1)

among_first : {A : Type 0} (xs : List A) (n m : ℕ) (x : A) → n < m → slice_get xs n ≡ Some x → (slice_get (take m xs) n ≡ Some x) × (take n (take m xs) ≡ take n xs)
among_first [] n m x l h = absurd cc
among_first (z ∷ xs) n zero x l h = absurd (omega (arith, l))
among_first (z ∷ xs) zero (suc m) x l h = (h, refl)
among_first (z ∷ xs) (suc n) (suc m) x l h = let rest = among_first xs n m x (omega (arith, l)) h in (rest.0, ap (λ ys. z ∷ ys) rest.1)

-- ---- entries as they are held

held_of : entry.Entry Value → held.Entry
held_of (entry.Call number op args) = held_entry.Call number op args
held_of (entry.Answer number reply) = held_entry.Answer number reply
held_of entry.Crash = held_entry.Crash
held_of entry.Boot = held_entry.Boot

held_is : (e : held.Entry) → held_of (entry_of e) ≡ e
unfolding held_of
held_is (held_entry.Call number op args) = refl
held_is (held_entry.Answer number reply) = refl
held_is held_entry.Crash = refl
held_is held_entry.Boot = refl

all_held : (es : List held.Entry) → map held_of (map entry_of es) ≡ es
all_held [] = refl
all_held (e ∷ es) = ap (λ x. x ∷ map held_of (map entry_of es)) (held_is e) ∙ ap (λ xs. e ∷ xs) (all_held es)

entries_same : (x y : List held.Entry) (told : List (entry.Entry Value)) → map entry_of x ≡ told → map entry_of y ≡ told → x ≡ y
entries_same x y told h k = sym (all_held x) ∙ ap (map held_of) (h ∙ sym k) ∙ all_held y

-- ---- events

module _ (g : Program) (s : Spec) (events : List (Event Value)) where
  defined : (number : ℕ) (reason : Reason) → IsUndefinedAt g s events number reason → (run g s events).fault ≡ None → ⊥
  defined number reason u none =
      let split = parted events u.before u.event u.there in
      let fault = broken (machine_of g (setting_of s)) (atomic_of s).allows (take u.before events) split.0 u.event reason u.undefined in
      none_some reason (run g s events).fault none (ap (λ xs. (run g s xs).fault) split.1 ∙ fault)

  -- an undefined event is the last that was possible
  never_later : (n m : ℕ) (r q : Reason) (h : IsUndefinedAt g s events n r) (k : IsUndefinedAt g s events m q) → h.before < k.before → ⊥
  never_later n m r q h k l =
      let split = earlier events h.before k.before h.event l h.there in
      let fault = broken (machine_of g (setting_of s)) (atomic_of s).allows (take h.before events) split.0 h.event r h.undefined in
      nothing_behind (machine_of g (setting_of s)) (atomic_of s).allows (run g s (take k.before events)) k.event r q
      (ap (λ xs. (run g s xs).fault) split.1 ∙ fault) k.undefined

  same_reason : (n m : ℕ) (r q : Reason) (h : IsUndefinedAt g s events n r) (k : IsUndefinedAt g s events m q) → h.before ≡ k.before → (n ≡ m) × (r ≡ q)
  same_reason n m r q h k same =
      let event : h.event ≡ k.event = some_same h.event k.event (slice_get events k.before) (ap (slice_get events) (sym same) ∙ h.there) k.there in
      let reasons : Undefined r ≡ Undefined q =
      sym h.undefined ∙ ap (λ b. outcome g s (take b events) h.event) same ∙ ap (outcome g s (take k.before events)) event ∙ k.undefined in
      (omega (arith, h.numbered, k.numbered, same), cc)

  one_at : (n m : ℕ) (r q : Reason) → IsUndefinedAt g s events n r → IsUndefinedAt g s events m q → (n ≡ m) × (r ≡ q)
  one_at n m r q h k =
      elim (compared h.before k.before) [
        | inl less ↦ absurd (never_later n m r q h k less)
        | inr (inl more) ↦ absurd (never_later m n q r k h more)
        | inr (inr same) ↦ same_reason n m r q h k same
      ]

  one_undefined : (o p : Option (ℕ × Reason)) → IsUndefined g s events o → IsUndefined g s events p → o ≡ p
  one_undefined None None h k = refl
  one_undefined None (Some found) h k = absurd (defined found.0 found.1 k h)
  one_undefined (Some found) None h k = absurd (defined found.0 found.1 h k)
  one_undefined (Some found) (Some other) h k =
      let same = one_at found.0 other.0 found.1 other.1 h k in
      ap (λ n. let pair : ℕ × Reason = (n, found.1) in Some pair) same.0 ∙ ap (λ r. let pair : ℕ × Reason = (other.0, r) in Some pair) same.1

-- ---- schedules

pub one_run : OneRun
one_run g s lines x y h k =
    let history : x.history ≡ y.history = entries_same x.history y.history (run g s (events_of lines)).history h.history k.history in
    let undefined : x.undefined ≡ y.undefined = one_undefined g s (events_of lines) x.undefined y.undefined h.undefined k.undefined in
    λ i. record { history = history i; undefined = undefined i }

pub not_both : NotBoth
not_both g s lines x p h k =
    let few : leaves_too_many (outcome g s (take k.before (events_of lines)) k.event) ≡ false = h.within k.before k.event k.there in
    let wrong : true ≡ false = sym k.over ∙ few in
    cc

module _ (g : Program) (s : Spec) (lines : List Line) (p q : Place) (h : IsTooMany g s lines p) (k : IsTooMany g s lines q) where
  -- no event before the one that would leave too many does
  never_before : h.before < k.before → ⊥
  never_before l =
      let among = among_first (events_of lines) h.before k.before h.event l h.there in
      let few : leaves_too_many (outcome g s (take h.before (take k.before (events_of lines))) h.event) ≡ false = k.within h.before h.event among.0 in
      let wrong : true ≡ false = sym h.over ∙ ap (λ xs. leaves_too_many (outcome g s xs h.event)) (sym among.1) ∙ few in
      cc

  same_place : h.before ≡ k.before → p ≡ q
  same_place same = some_same p q (place_of lines k.before) (ap (place_of lines) (sym same) ∙ h.placed) k.placed

pub one_line : OneLine
one_line g s lines p q h k =
    elim (compared h.before k.before) [
      | inl less ↦ absurd (never_before g s lines p q h k less)
      | inr (inl more) ↦ absurd (never_before g s lines q p k h more)
      | inr (inr same) ↦ same_place g s lines p q h k same
    ]
