-- Lists, an item at a time.
use Rattle.std.proofs.Common.{◌≡◌, ℕ, zero, suc, ◌<◌, true, false, nat_lt, List, [], ◌∷◌, map, length, drop, Some, refl, sym, ap, subst, ◌∙◌, inl, inr, arith}
use Rattle.std.specs.Prelude.{slice_get}
use Rattle.std.specs.List.{All}
use Rattle.gv_terms.specs.declared.value.Value.{Value}
use Rattle.gv_resources.proofs.Sums.{below_test}

pub there_within : {A : Type 0} (xs : List A) (n : ℕ) → n < length xs → (x : A) × (slice_get xs n ≡ Some x)
there_within [] n l = absurd (omega (arith, l))
there_within (x ∷ xs) zero l = (x, refl)
there_within (x ∷ xs) (suc n) l = there_within xs n (omega (arith, l))

pub within_there : {A : Type 0} (xs : List A) (n : ℕ) (x : A) → slice_get xs n ≡ Some x → n < length xs
within_there [] n x e = absurd cc
within_there (y ∷ xs) zero x e = omega arith
within_there (y ∷ xs) (suc n) x e = let l = within_there xs n x e in omega arith

-- what holds of all holds of the item under a number
pub of_all : {A : Type 0} (P : A → Type 0) (xs : List A) (n : ℕ) (x : A) → All P xs → slice_get xs n ≡ Some x → P x
of_all P [] n x all e = absurd cc
of_all P (y ∷ xs) zero x all e = let same : y ≡ x = cc in subst P same (all 0 y (omega arith))
of_all P (y ∷ xs) (suc n) x all e = of_all P xs n x (λ k d l. all (suc k) d (omega (arith, l))) e

pub below_is : (m n : ℕ) → nat_lt m n ≡ true → m < n
below_is m n e = elim (below_test m n) [ inl (l, t) ↦ l | inr (l, t) ↦ (let never : true ≡ false = sym e ∙ t in absurd cc) ]

pub mapped_at : (f : ℕ → Value) (xs : List ℕ) (i x : ℕ) → slice_get xs i ≡ Some x → slice_get (map f xs) i ≡ Some (f x)
mapped_at f [] i x e = absurd cc
mapped_at f (y ∷ xs) zero x e = let same : y ≡ x = cc in ap (λ (z : ℕ). Some (f z)) same
mapped_at f (y ∷ xs) (suc i) x e = mapped_at f xs i x e

-- what begins with the item under a number
pub drop_there : {A : Type 0} (xs : List A) (n : ℕ) (x : A) → slice_get xs n ≡ Some x → drop n xs ≡ x ∷ drop (suc n) xs
drop_there [] n x e = absurd cc
drop_there (y ∷ xs) zero x e = let same : y ≡ x = cc in ap (λ z. z ∷ xs) same
drop_there (y ∷ xs) (suc n) x e = drop_there xs n x e
