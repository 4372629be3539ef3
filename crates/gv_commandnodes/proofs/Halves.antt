-- Numbers among those of two lists, and the least and the largest of a list.
use Rattle.std.proofs.Common.{◌≡◌, ℕ, ◌==◌, ◌<◌, ◌≤◌, Bool, true, false, ◌⊎◌, inl, inr, List, [], ◌∷◌, ◌++◌, refl, arith}
use Rattle.std.proofs.lemmas.Bool.{false≢true}
use Rattle.gv_grammar.specs.Derivation.{is_among}

pub either : (n : ℕ) (xs ys : List ℕ) → is_among n (xs ++ ys) ≡ true → (is_among n xs ≡ true) ⊎ (is_among n ys ≡ true)
either n [] ys h = inr h
either n (x ∷ xs) ys h = go (x == n) refl (λ l. either n xs ys l)
  where
    go : (b : Bool) → (x == n) ≡ b → (is_among n (xs ++ ys) ≡ true → (is_among n xs ≡ true) ⊎ (is_among n ys ≡ true))
        → (is_among n (x ∷ xs) ≡ true) ⊎ (is_among n ys ≡ true)
    go true q later = inl (grind (arith, q))
    go false q later =
        let there : is_among n (xs ++ ys) ≡ true = grind (arith, q, h) in
        elim (later there) [ inl a ↦ inl (grind (arith, q, a)) | inr b ↦ inr b ]

abbrev pub Within : ℕ → ℕ → List ℕ → Type 0
Within low high [] = Unit {0}
Within low high (x ∷ xs) = (low ≤ x) × (x < high) × Within low high xs

pub bounded : (n low high : ℕ) (xs : List ℕ) → Within low high xs → is_among n xs ≡ true → (low ≤ n) × (n < high)
bounded n low high [] w h = absurd (false≢true h)
bounded n low high (x ∷ xs) w h = go (x == n) refl (λ l. bounded n low high xs w.2 l)
  where
    go : (b : Bool) → (x == n) ≡ b → (is_among n xs ≡ true → (low ≤ n) × (n < high)) → (low ≤ n) × (n < high)
    go true q later =
        let l = w.0 in
        let k = w.1 in
        let e : x ≡ n = grind (arith, q) in
        (omega (arith, l, e), omega (arith, k, e))
    go false q later = later (grind (arith, q, h))
