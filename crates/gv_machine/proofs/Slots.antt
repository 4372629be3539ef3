-- Threads under their numbers, those that crashes dropped first.
use Rattle.std.proofs.Common.{◌≡◌, ℕ, zero, suc, ◌+◌, ◌<◌, ◌≤◌, List, [], ◌∷◌, ◌++◌, Option, Some, None, length, map, replicate, refl, sym, ap, ◌∙◌, arith, length-append}
use Rattle.std.specs.Prelude.{slice_get, slice_set, option_and_then}
use Rattle.std.proofs.lemmas.List.{length-replicate}
use Rattle.std.proofs.lemmas.Option.{slice_get_past}
use Rattle.gv_spec.specs.Runs.{living, replaced}

module _ {A : Type 0} where
  -- a number up to that of the last one that was dropped
  pub dropped_living : (d : ℕ) (xs : List (Option A)) (number : ℕ) → number ≤ d → living (replicate d None ++ xs) number ≡ None
  dropped_living d xs zero h = refl
  dropped_living zero xs (suc n) h = absurd (omega arith)
  dropped_living (suc d) xs (suc zero) h = refl
  dropped_living (suc d) xs (suc (suc n)) h = dropped_living d xs (suc n) (omega arith)

  -- a number behind that
  pub slot_living : (d : ℕ) (xs : List (Option A)) (number at : ℕ) → number ≡ suc (d + at)
      → living (replicate d None ++ xs) number ≡ option_and_then (λ thread. thread) (slice_get xs at)
  slot_living zero xs number at e = let e' : number ≡ suc at = omega arith in ap (living xs) e'
  slot_living (suc d) xs zero at e = absurd (omega arith)
  slot_living (suc d) xs (suc zero) at e = absurd (omega arith)
  slot_living (suc d) xs (suc (suc n)) at e = slot_living d xs (suc n) at (omega arith)

  pub beyond_living : (d : ℕ) (xs : List (Option A)) (number at : ℕ) → number ≡ suc (d + at) → length xs ≤ at → living (replicate d None ++ xs) number ≡ None
  beyond_living d xs number at e h = slot_living d xs number at e ∙ ap (option_and_then (λ thread. thread)) (slice_get_past xs at h)

  pub slot_replaced : (d : ℕ) (xs : List (Option A)) (number at : ℕ) (x : Option A) → number ≡ suc (d + at)
      → replaced (replicate d None ++ xs) number x ≡ replicate d None ++ slice_set xs at x
  slot_replaced zero xs number at x e = let e' : number ≡ suc at = omega arith in ap (λ n. replaced xs n x) e'
  slot_replaced (suc d) xs zero at x e = absurd (omega arith)
  slot_replaced (suc d) xs (suc zero) at x e = absurd (omega arith)
  slot_replaced (suc d) xs (suc (suc n)) at x e = ap (λ ts. None ∷ ts) (slot_replaced d xs (suc n) at x (omega arith))

  none_each : (xs : List (Option A)) → map (λ (thread : Option A). let none : Option A = None in none) xs ≡ replicate (length xs) None
  none_each [] = refl
  none_each (x ∷ xs) = ap (λ ts. None ∷ ts) (none_each xs)

  -- a crash drops each
  pub all_dropped : (d : ℕ) (xs : List (Option A)) → map (λ (thread : Option A). let none : Option A = None in none) (replicate d None ++ xs) ≡ replicate (d + length xs) None
  all_dropped d xs =
      none_each (replicate d None ++ xs)
      ∙ ap (λ n. replicate n None) (omega (arith, length-append (let ds : List (Option A) = replicate d None in ds) xs, length-replicate {A = Option A} d None))
