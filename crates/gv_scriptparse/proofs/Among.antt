-- Classes among several.
use Rattle.std.proofs.Common.{◌≡◌, ◌⊎◌, ⊎_elim, ℕ, true, eqb, List, [], ◌∷◌, ◌++◌, inl, inr, refl, sym, subst, arith}
use Rattle.std.proofs.lemmas.Bool.Decides.{nat_tests}
use Rattle.gv_grammar.specs.Derivation.{is_among}
use Rattle.gv_grammar.proofs.Tests.{either_right}
use Rattle.gv_grammar.proofs.Meaning.{more_classes}

-- of two lists
pub split_among : (k : ℕ) (xs ys : List ℕ) → is_among k (xs ++ ys) ≡ true → (is_among k xs ≡ true) ⊎ (is_among k ys ≡ true)
split_among k [] ys h = inr h
split_among k (x ∷ xs) ys h =
    ⊎_elim (λ (q : k ≡ x). inl (subst (λ (j : ℕ). is_among j (x ∷ xs) ≡ true) (sym q) (own_first x xs)))
    (λ (q : is_among k (xs ++ ys) ≡ true). elim (split_among k xs ys q) [ inl a ↦ inl (either_right (eqb x k) (is_among k xs) a) | inr b ↦ inr b ])
    (more_classes x k (is_among k (xs ++ ys)) h)
  where
    same_itself : (x : ℕ) → eqb x x ≡ true
    same_itself x = grind (arith, nat_tests)

    own_first : (x : ℕ) (xs : List ℕ) → is_among x (x ∷ xs) ≡ true
    own_first x xs = rw (same_itself x) refl

pub among_right : (k : ℕ) (xs ys : List ℕ) → is_among k ys ≡ true → is_among k (xs ++ ys) ≡ true
among_right k [] ys h = h
among_right k (x ∷ xs) ys h = either_right (eqb x k) (is_among k (xs ++ ys)) (among_right k xs ys h)

pub among_left : (k : ℕ) (xs ys : List ℕ) → is_among k xs ≡ true → is_among k (xs ++ ys) ≡ true
among_left k [] ys h = absurd cc
among_left k (x ∷ xs) ys h =
    ⊎_elim (λ (q : k ≡ x). subst (λ (j : ℕ). is_among j (x ∷ (xs ++ ys)) ≡ true) (sym q) (own_front x (xs ++ ys)))
    (λ (q : is_among k xs ≡ true). either_right (eqb x k) (is_among k (xs ++ ys)) (among_left k xs ys q))
    (more_classes x k (is_among k xs) h)
  where
    same_one : (x : ℕ) → eqb x x ≡ true
    same_one x = grind (arith, nat_tests)

    own_front : (x : ℕ) (xs : List ℕ) → is_among x (x ∷ xs) ≡ true
    own_front x xs = rw (same_one x) refl
