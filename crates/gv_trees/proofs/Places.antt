-- Lists that hold the same at each place are equal.
use Rattle.std.proofs.Common.{◌≡◌, ℕ, ◌+◌, ◌<◌, zero, suc, List, [], ◌∷◌, length, slice_get, Bool, true, false, nat_lt, Option, Some, None, refl, ap, ◌∙◌, subst, arith}
use Rattle.std.proofs.lemmas.Bool.{ltb-true, ltb-false}

some_inside : {X : Type 0} (x y : X) → Some x ≡ Some y → x ≡ y
some_inside {X = X} x y e = ap (inside x) e
  where
    inside : X → Option X → X
    inside d None = d
    inside d (Some z) = z

pub same_places : {X : Type 0} (xs ys : List X) → length xs ≡ length ys → ((i : ℕ) → i < length xs → slice_get xs i ≡ slice_get ys i) → xs ≡ ys
same_places [] [] e h = refl
same_places [] (y ∷ ys) e h = absurd (omega (arith, e))
same_places (x ∷ xs) [] e h = absurd (omega (arith, e))
same_places (x ∷ xs) (y ∷ ys) e h =
    ap (λ z. z ∷ xs) (some_inside x y (h zero (omega arith)))
    ∙ ap (λ l. y ∷ l) (same_places xs ys (omega (arith, e)) (λ i k. h (suc i) (omega (arith, k))))

pub one_more : {X : Type 0} (xs ys : List X) (n : ℕ) → ((i : ℕ) → i < n → slice_get xs i ≡ slice_get ys i) → slice_get xs n ≡ slice_get ys n
    → (i : ℕ) → i < n + 1 → slice_get xs i ≡ slice_get ys i
one_more xs ys n h e i k = pick (nat_lt i n) refl
  where
    pick : (b : Bool) → nat_lt i n ≡ b → slice_get xs i ≡ slice_get ys i
    pick true t = h i (ltb-true i n t)
    pick false t = let same : n ≡ i = omega (arith, k, ltb-false i n t) in subst (λ j. slice_get xs j ≡ slice_get ys j) same e
