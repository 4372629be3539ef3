-- Lists of threads: where a thread stands once one was changed, added or dropped.
use Rattle.std.proofs.Common.{◌≡◌, ◌≢◌, ℕ, zero, suc, ◌⊎◌, List, [], ◌∷◌, ◌++◌, length, map, slice_get, slice_set, Option, Some, None, option_and_then, refl, ap, inl, inr, arith}

pub set_cases : {A : Type 0} (ts : List A) (i j : ℕ) (a y : A) → slice_get (slice_set ts i a) j ≡ Some y → ((j ≡ i) × (a ≡ y)) ⊎ ((j ≢ i) × (slice_get ts j ≡ Some y))
set_cases [] i j a y e = absurd cc
set_cases (x ∷ xs) zero zero a y e = inl (refl, cc)
set_cases (x ∷ xs) zero (suc j) a y e = inr ((λ h. cc), e)
set_cases (x ∷ xs) (suc i) zero a y e = inr ((λ h. cc), e)
set_cases (x ∷ xs) (suc i) (suc j) a y e = elim (set_cases xs i j a y e) [ inl p ↦ inl (ap suc p.0, p.1) | inr p ↦ inr ((λ h. p.0 (omega arith)), p.1) ]

pub push_cases : {A : Type 0} (ts : List A) (x y : A) (i : ℕ) → slice_get (ts ++ x ∷ []) i ≡ Some y → (slice_get ts i ≡ Some y) ⊎ ((i ≡ length ts) × (x ≡ y))
push_cases [] x y zero e = inr (refl, cc)
push_cases [] x y (suc i) e = absurd cc
push_cases (t ∷ ts) x y zero e = inl e
push_cases (t ∷ ts) x y (suc i) e = elim (push_cases ts x y i e) [ inl p ↦ inl p | inr p ↦ inr (ap suc p.0, p.1) ]

-- nothing stands in a list of dropped threads
pub none_stands : {A B : Type 0} (ts : List A) (i : ℕ) (y : B) → slice_get (map (λ t. None) ts) i ≡ Some (Some y) → ⊥
none_stands [] i y e = cc
none_stands (t ∷ ts) zero y e = cc
none_stands (t ∷ ts) (suc i) y e = none_stands ts i y e

pub stands : {A : Type 0} (o : Option (Option A)) (x : A) → option_and_then (λ thread. thread) o ≡ Some x → o ≡ Some (Some x)
stands None x e = absurd cc
stands (Some thread) x e = ap Some e

pub some_same : {A : Type 0} (x y : A) → Some x ≡ Some y → x ≡ y
some_same x y e = cc

pub append_none : {A : Type 0} (xs : List A) → xs ++ [] ≡ xs
append_none [] = refl
append_none (x ∷ xs) = ap (λ ys. x ∷ ys) (append_none xs)
