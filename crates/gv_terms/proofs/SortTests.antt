-- The test that `==` makes on sorts.
use Rattle.std.proofs.Common.{◌≡◌, List, [], ◌∷◌, Bool, ◌&&◌, cond, Some, None, refl, ap, ◌∙◌, rules}
use Rattle.std.specs.Cmp.Lexicographic.{pointwise}
use Rattle.gv_terms.specs.declared.sort.Sort.{Sort}
use Rattle.gv_terms.specs.contracts.sort.SortPartialEq.TheImpl.{eq-value}
use Rattle.gv_terms.specs.Sorts.{sort_eq, takes}

same_test : (a b : Sort) → (eq-value).it a b ≡ sort_eq a b
same_test a b = search rules

pointwise_same : (E F : Sort → Sort → Bool) → ((a b : Sort) → E a b ≡ F a b) → (xs ys : List Sort) → pointwise E xs ys ≡ pointwise F xs ys
pointwise_same E F same [] [] = refl
pointwise_same E F same [] (y ∷ ys) = refl
pointwise_same E F same (x ∷ xs) [] = refl
pointwise_same E F same (x ∷ xs) (y ∷ ys) = ap (λ b. b && pointwise E xs ys) (same x y) ∙ ap (λ b. F x y && b) (pointwise_same E F same xs ys)

pub tested : (r : Bool) (wanted parts : List Sort) (s : Sort) → r ≡ pointwise (eq-value).it wanted parts → cond r (Some s) None ≡ takes wanted s parts
tested r wanted parts s e = ap (λ b. cond b (Some s) None) (e ∙ pointwise_same (eq-value).it sort_eq same_test wanted parts)
