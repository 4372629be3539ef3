-- How what fits changes at many keys at once.
use Rattle.std.proofs.Common.{◌≡◌, ◌≢◌, ℕ, ◌+◌, ◌<◌, ◌≤◌, ◌⊎◌, inl, inr, Bool, true, false, ◌&&◌, if◌then◌else◌, List, Option, Some, None, refl, sym, ap, arith, subst, ◌∙◌}
use Rattle.gv_terms.specs.declared.value.Value.{Value}
use Rattle.gv_resources.specs.Kinds.{Kind, FrozenCell, FrozenItem, Lock, Down, Half, most}
use Rattle.gv_resources.specs.Pieces.{Resource, Have, Piece, Telling, Fits, values_eq}
use Rattle.gv_resources.proofs.Equality.{values_tell}

-- whether an answer is this value
abbrev pub answers : Option (List Value) → List Value → Bool
answers None v = false
answers (Some u) v = values_eq u v

abbrev pub once : Bool → ℕ
once b = if b then 1 else 0

-- all that is told under some keys, each once
abbrev pub all_told : (Kind → List Value → Bool) → Telling → Piece
all_told chosen tells (Have k key v) = once (chosen k key && answers (tells k key) v)

some_same : {A : Type 0} (x y : A) → Some x ≡ Some y → x ≡ y
some_same x y e = cc

answers_test : (x : Option (List Value)) (v : List Value) → ((x ≡ Some v) × (answers x v ≡ true)) ⊎ ((x ≢ Some v) × (answers x v ≡ false))
answers_test None v = inr (λ e. absurd cc, refl)
answers_test (Some u) v = elim (values_tell u v) [ inl (e, t) ↦ inl (ap Some e, t) | inr (ne, t) ↦ inr (λ e. ne (some_same u v e), t) ]

counted : (b c : Bool) → ((b ≡ true) × (c ≡ true) × (once (b && c) ≡ 1)) ⊎ (once (b && c) ≡ 0)
counted true true = inl (refl, refl, refl)
counted true false = inr refl
counted false c = inr refl

-- such a piece has what is told under a key that is chosen, once, and nothing else
pub all_told_test : (chosen : Kind → List Value → Bool) (tells : Telling) (k : Kind) (key v : List Value)
    → ((chosen k key ≡ true) × (tells k key ≡ Some v) × (all_told chosen tells (Have k key v) ≡ 1)) ⊎ (all_told chosen tells (Have k key v) ≡ 0)
all_told_test chosen tells k key v = elim (counted (chosen k key) (answers (tells k key) v)) [
  | inl (b, c, one) ↦ elim (answers_test (tells k key) v) [
    | inl (e, t) ↦ inl (b, e, one)
    | inr (ne, t) ↦ (let never : true ≡ false = sym c ∙ t in absurd cc)
  ]
  | inr zero ↦ inr zero
]

pub all_told_has : (chosen : Kind → List Value → Bool) (tells : Telling) (k : Kind) (key v : List Value) → chosen k key ≡ true → tells k key ≡ Some v
    → 0 < all_told chosen tells (Have k key v)
all_told_has chosen tells k key v c is = elim (answers_test (tells k key) v) [
  | inl (e, t) ↦ here (chosen k key) (answers (tells k key) v) c t
  | inr (ne, t) ↦ absurd (ne is)
]
  where
    here : (b c : Bool) → b ≡ true → c ≡ true → 0 < once (b && c)
    here true true b c = omega arith
    here true false b c = absurd cc
    here false x b c = absurd cc

most_some : (k : Kind) (n : ℕ) → most k ≡ Some n → 0 < n
most_some FrozenCell n e = absurd cc
most_some FrozenItem n e = absurd cc
most_some Lock n e = absurd cc
most_some Down n e = absurd cc
most_some Half n e = let s : 2 ≡ n = some_same 2 n e in omega arith
most_some _ n e = let s : 1 ≡ n = some_same 1 n e in omega arith

bool_test : (b : Bool) → (b ≡ true) ⊎ (b ≡ false)
bool_test true = inl refl
bool_test false = inr refl

-- ---- who has nothing under a key

pub none_of_fresh : {p frame : Piece} {before : Telling} (k : Kind) (key v : List Value) → Fits p before → ((e : Resource) → frame e ≤ p e) → before k key ≡ None
    → 0 < frame (Have k key v) → ⊥
none_of_fresh k key v f within free l = let m = within (Have k key v) in let a = f.says k key v (omega arith) in cc

pub none_of_held : {p : Piece} {before : Telling} (own frame : Piece) (k : Kind) (key u v : List Value) → Fits p before → ((e : Resource) → own e + frame e ≤ p e) → most k ≡ Some 1
    → 0 < own (Have k key u) → 0 < frame (Have k key v) → ⊥
none_of_held own frame k key u v f within once has l =
    let m = within (Have k key v) in
    let n = within (Have k key u) in
    let a = f.says k key v (omega arith) in
    let b = f.says k key u (omega arith) in
    let same : v ≡ u = cc in
    let moved : 0 < frame (Have k key u) = subst (λ (x : List Value). 0 < frame (Have k key x)) same l in
    let c = f.few k key u 1 once in
    omega arith

-- ---- many at once

-- a frame that has nothing under some keys fits together with all that is told there now
pub fits_renewed : {p frame q : Piece} {before now : Telling} (chosen : Kind → List Value → Bool) → Fits p before → ((e : Resource) → frame e ≤ p e)
    → ((k : Kind) (key v : List Value) → chosen k key ≡ true → 0 < frame (Have k key v) → ⊥)
    → ((k : Kind) (key : List Value) → chosen k key ≡ false → now k key ≡ before k key)
    → ((e : Resource) → q e ≤ frame e + all_told chosen now e) → Fits q now
fits_renewed {frame = frame} {q = q} {before = before} {now = now} chosen f within none same le = record { says = says; few = few }
  where
    says : (k : Kind) (key v : List Value) → 0 < q (Have k key v) → now k key ≡ Some v
    says k key v l =
        let m = le (Have k key v) in
        let n = within (Have k key v) in
        elim (all_told_test chosen now k key v) [
          | inl (c, is, one) ↦ is
          | inr zero ↦ elim (bool_test (chosen k key)) [
            | inl c ↦ absurd (none k key v c (omega arith))
            | inr c ↦ same k key c ∙ f.says k key v (omega arith)
          ]
        ]

    few : (k : Kind) (key v : List Value) (n : ℕ) → most k ≡ Some n → q (Have k key v) ≤ n
    few k key v n e =
        let m = le (Have k key v) in
        let w = within (Have k key v) in
        let b = f.few k key v n e in
        let s = most_some k n e in
        elim (all_told_test chosen now k key v) [
          | inl (c, is, one) ↦ (let z = none k key v c in omega arith)
          | inr zero ↦ omega arith
        ]
