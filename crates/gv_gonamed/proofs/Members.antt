-- Members of two lists, one behind the other.
use Rattle.std.proofs.Common.{ℕ, ◌⊎◌, inl, inr, ⊎_elim, List, [], ◌∷◌, ◌++◌}
use Rattle.gv_cycles.specs.Leading.{IsIn}

pub in_first : (n : ℕ) (xs ys : List ℕ) → IsIn n xs → IsIn n (xs ++ ys)
in_first n [] ys h = absurd h
in_first n (x ∷ xs) ys (inl e) = inl e
in_first n (x ∷ xs) ys (inr h) = inr (in_first n xs ys h)

pub in_second : (n : ℕ) (xs ys : List ℕ) → IsIn n ys → IsIn n (xs ++ ys)
in_second n [] ys h = h
in_second n (x ∷ xs) ys h = inr (in_second n xs ys h)

pub in_one : (n : ℕ) (xs ys : List ℕ) → IsIn n (xs ++ ys) → IsIn n xs ⊎ IsIn n ys
in_one n [] ys h = inr h
in_one n (x ∷ xs) ys (inl e) = inl (inl e)
in_one n (x ∷ xs) ys (inr h) = ⊎_elim (λ k. inl (inr k)) (λ k. inr k) (in_one n xs ys h)
