-- Lists of threads, one of them given anew or one more.
use Rattle.std.proofs.Common.{◌≡◌, ◌≢◌, ℕ, zero, suc, ◌+◌, ◌<◌, List, [], ◌∷◌, ◌++◌, length, map, Option, Some, None, refl, sym, ap, ◌∙◌, arith}
use Rattle.std.specs.Prelude.{slice_get, slice_set, option_and_then}
use Rattle.gv_spec.specs.Runs.{living, replaced}
use Rattle.gv_seats.proofs.Locals.{set_there, set_elsewhere, set_length}

pub living_within : {A : Type 0} (ts : List (Option A)) (n : ℕ) (x : A) → living ts (suc n) ≡ Some x → n < length ts
living_within [] n x e = absurd cc
living_within (t ∷ ts) zero x e = omega arith
living_within (t ∷ ts) (suc n) x e = let l = living_within ts n x e in omega arith

pub replaced_there : {A : Type 0} (ts : List (Option A)) (n : ℕ) (y : Option A) → n < length ts → living (replaced ts (suc n) y) (suc n) ≡ y
replaced_there ts n y l = ap (λ x. option_and_then (λ z. z) x) (set_there ts n y l)

pub replaced_elsewhere : {A : Type 0} (ts : List (Option A)) (n m : ℕ) (y : Option A) → m ≢ n → living (replaced ts (suc n) y) (suc m) ≡ living ts (suc m)
replaced_elsewhere ts n m y ne = ap (λ x. option_and_then (λ z. z) x) (set_elsewhere ts n m y ne)

pub replaced_length : {A : Type 0} (ts : List (Option A)) (n : ℕ) (y : Option A) → length (replaced ts (suc n) y) ≡ length ts
replaced_length ts n y = set_length ts n y

pub added_there : {A : Type 0} (ts : List (Option A)) (y : Option A) → living (ts ++ y ∷ []) (suc (length ts)) ≡ y
added_there [] y = refl
added_there (t ∷ ts) y = added_there ts y

pub added_elsewhere : {A : Type 0} (ts : List (Option A)) (y : Option A) (m : ℕ) → m ≢ length ts → living (ts ++ y ∷ []) (suc m) ≡ living ts (suc m)
added_elsewhere [] y zero ne = absurd (ne refl)
added_elsewhere [] y (suc m) ne = refl
added_elsewhere (t ∷ ts) y zero ne = refl
added_elsewhere (t ∷ ts) y (suc m) ne = added_elsewhere ts y m (λ e. ne (ap suc e))

pub added_length : {A : Type 0} (ts : List A) (y : A) → length (ts ++ y ∷ []) ≡ suc (length ts)
added_length [] y = refl
added_length (t ∷ ts) y = ap suc (added_length ts y)

pub none_lives : {A : Type 0} (ts : List (Option A)) (n : ℕ) (x : A) → living (map {B = Option A} (λ t. None) ts) (suc n) ≡ Some x → ⊥
none_lives [] n x e = cc
none_lives (t ∷ ts) zero x e = cc
none_lives (t ∷ ts) (suc n) x e = none_lives ts n x e

pub nothing_added : {A : Type 0} (xs : List A) → xs ++ [] ≡ xs
nothing_added [] = refl
nothing_added (x ∷ xs) = ap (λ ys. x ∷ ys) (nothing_added xs)
