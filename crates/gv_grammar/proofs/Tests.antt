-- What the tests of a table say.
use Rattle.std.proofs.Common.{◌≡◌, ℕ, suc, zero, ◌+◌, Bool, true, false, ◌&&◌, ◌||◌, not, eqb, List, [], ◌∷◌, ◌++◌, Some, ◌⊎◌, inl, inr, ⊎_elim, refl, subst, arith}
use Rattle.std.specs.Prelude.{slice_get}
use Rattle.std.specs.List.{enumerate_from, list_all}
use Rattle.std.proofs.lemmas.Bool.{false≢true}
use Rattle.std.proofs.lemmas.Bool.Decides.{nat_tests}
use Rattle.gv_grammar.specs.Derivation.{is_among}
use Rattle.gv_grammar.specs.Predictive.{is_within}

pub both : (a b : Bool) → (a && b) ≡ true → (a ≡ true) × (b ≡ true)
both true b h = (refl, h)
both false b h = absurd (false≢true h)

pub either : (a b : Bool) → (a || b) ≡ true → (a ≡ true) ⊎ (b ≡ true)
either true b h = inl refl
either false b h = inr h

pub either_left : (a b : Bool) → a ≡ true → (a || b) ≡ true
either_left true b h = refl
either_left false b h = absurd (false≢true h)

pub either_right : (a b : Bool) → b ≡ true → (a || b) ≡ true
either_right true b h = refl
either_right false b h = h

pub then_so : (a b : Bool) → (not a || b) ≡ true → a ≡ true → b ≡ true
then_so true b h e = h
then_so false b h e = absurd (false≢true e)

pub among_append : (k : ℕ) (xs ys : List ℕ) → is_among k (xs ++ ys) ≡ (is_among k xs || is_among k ys)
among_append k [] ys = refl
among_append k (x ∷ xs) ys = elim (eqb x k) as (λ b. (b || is_among k (xs ++ ys)) ≡ ((b || is_among k xs) || is_among k ys)) [ true ↦ refl | false ↦ among_append k xs ys ]

same_of : (m k : ℕ) → eqb m k ≡ true → m ≡ k
same_of m k h = grind (arith, nat_tests)

pub within_among : (k : ℕ) (ms ns : List ℕ) → is_within ms ns ≡ true → is_among k ms ≡ true → is_among k ns ≡ true
within_among k [] ns h e = absurd (false≢true e)
within_among k (m ∷ ms) ns h e =
    let h' = both (is_among m ns) (is_within ms ns) h in
    ⊎_elim (λ (i : eqb m k ≡ true). subst (λ (j : ℕ). is_among j ns ≡ true) (same_of m k i) h'.0)
    (λ i. within_among k ms ns h'.1 i) (either (eqb m k) (is_among k ms) e)

pub all_among : (p : ℕ → Bool) (k : ℕ) (ms : List ℕ) → list_all p ms ≡ true → is_among k ms ≡ true → p k ≡ true
all_among p k [] h e = absurd (false≢true e)
all_among p k (m ∷ ms) h e =
    let h' = both (p m) (list_all p ms) h in
    ⊎_elim (λ (i : eqb m k ≡ true). subst (λ (j : ℕ). p j ≡ true) (same_of m k i) h'.0)
    (λ i. all_among p k ms h'.1 i) (either (eqb m k) (is_among k ms) e)

pub all_append : {X : Type 0} (p : X → Bool) (xs ys : List X) → list_all p xs ≡ true → list_all p ys ≡ true → list_all p (xs ++ ys) ≡ true
all_append p [] ys h e = e
all_append p (x ∷ xs) ys h e =
    let h' = both (p x) (list_all p xs) h in
    rw (h'.0) (all_append p xs ys h'.1 e)

pub all_at : {X : Type 0} (p : ℕ × X → Bool) (xs : List X) (n i : ℕ) (x : X) → list_all p (enumerate_from n xs) ≡ true → slice_get xs i ≡ Some x → p (n + i, x) ≡ true
all_at p [] n i x h e = absurd cc
all_at p (y ∷ ys) n zero x h e =
    let q : y ≡ x = cc in
    let z : n + 0 ≡ n = omega arith in
    rw (z, ← q) (both (p (n, y)) _ h).0
all_at p (y ∷ ys) n (suc i) x h e =
    let z : n + suc i ≡ (n + 1) + i = omega arith in
    rw z (all_at p ys (n + 1) i x (both (p (n, y)) _ h).1 e)
