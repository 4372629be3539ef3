-- Locals that are set, and the values that they have.
use Rattle.std.proofs.Common.{◌≡◌, ◌≢◌, ℕ, zero, suc, ◌<◌, List, [], ◌∷◌, length, Option, Some, refl, sym, ap, ◌∙◌, inl, inr, arith}
use Rattle.std.specs.Prelude.{slice_get, slice_set}
use Rattle.gv_base.specs.declared.val.Val.{Val}
use Rattle.gv_terms.specs.declared.tree.TermTree.{TermTree}
use Rattle.gv_terms.specs.declared.value.Env.{Env}
use Rattle.gv_terms.specs.Trees.{value_under}
use Rattle.gv_resources.proofs.Sums.{number_test}
use Rattle.gv_seats.specs.Seats.{plain, HaveValues}

pub set_there : {A : Type 0} (xs : List A) (i : ℕ) (a : A) → i < length xs → slice_get (slice_set xs i a) i ≡ Some a
set_there [] i a l = absurd (omega (arith, l))
set_there (x ∷ xs) zero a l = refl
set_there (x ∷ xs) (suc i) a l = set_there xs i a (omega (arith, l))

pub set_elsewhere : {A : Type 0} (xs : List A) (i j : ℕ) (a : A) → j ≢ i → slice_get (slice_set xs i a) j ≡ slice_get xs j
set_elsewhere [] i j a ne = refl
set_elsewhere (x ∷ xs) zero zero a ne = absurd (ne refl)
set_elsewhere (x ∷ xs) zero (suc j) a ne = refl
set_elsewhere (x ∷ xs) (suc i) zero a ne = refl
set_elsewhere (x ∷ xs) (suc i) (suc j) a ne = set_elsewhere xs i j a (λ e. ne (ap suc e))

pub set_length : {A : Type 0} (xs : List A) (i : ℕ) (a : A) → length (slice_set xs i a) ≡ length xs
set_length [] i a = refl
set_length (x ∷ xs) zero a = refl
set_length (x ∷ xs) (suc i) a = ap suc (set_length xs i a)

some_same : {A : Type 0} (x y : A) → Some x ≡ Some y → x ≡ y
some_same x y e = cc

-- a local gets a value and its term
pub have_set : (env : Env) (terms : List (Option TermTree)) (locals : List Val) (x : ℕ) (t : TermTree) (v : Val) → HaveValues env terms locals → length locals ≡ length terms
    → x < length terms → plain v ≡ Some (value_under env t) → HaveValues env (slice_set terms x (Some t)) (slice_set locals x v)
have_set env terms locals x t v have as_many l is y u there = elim (number_test y x) [
  | inl (same, b) ↦
      let here : Some (Some t) ≡ Some (Some u) = sym (set_there terms x (Some t) l) ∙ ap (λ z. slice_get (slice_set terms x (Some t)) z) (sym same) ∙ there in
      let is_u : t ≡ u = some_same t u (some_same (Some t) (Some u) here) in
      (v, ap (λ z. slice_get (slice_set locals x v) z) same ∙ set_there locals x v (omega (arith, as_many, l)), is ∙ ap (λ z. Some (value_under env z)) is_u)
  | inr (ne, b) ↦
      let (w, w_there, w_is) = have y u (sym (set_elsewhere terms x y (Some t) ne) ∙ there) in
      (w, set_elsewhere locals x y v ne ∙ w_there, w_is)
]
