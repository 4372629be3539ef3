-- Items by their names, and by their numbers.
use Rattle.std.proofs.Common.{◌≡◌, ℕ, suc, ◌+◌, Bool, true, false, List, [], ◌∷◌, map, Option, Some, None, option_map, refl, sym, ap, subst, ◌∙◌, arith}
use Rattle.std.specs.Prelude.{slice_get, if◌then◌else◌}
use Rattle.std.specs.List.{AllByRecursion}
use Rattle.std.specs.Str.{bytes_eq}
use Rattle.std.proofs.lemmas.Slice.Eq.{bytes_eq-Decides}
use Rattle.gv_interfaces.specs.Interfaces.{named}
use Rattle.gv_interfaces.specs.Tables.{number_among}

module _ {A : Type 0} (f : A → List ℕ) (name : List ℕ) where
  -- what is said of all names is said of one that is there
  pub among_names : (P : List ℕ → Type 0) (xs : List A) (x : A) → named f name xs ≡ Some x → AllByRecursion P (map f xs) → P name
  among_names P [] x h all = absurd cc
  among_names P (y ∷ ys) x h all = by_test (bytes_eq (f y) name) refl (λ k. among_names P ys x k all.1)
    where
      by_test : (b : Bool) → bytes_eq (f y) name ≡ b → (named f name ys ≡ Some x → P name) → P name
      by_test true e more = subst P ((bytes_eq-Decides (f y) name).0 e) all.0
      by_test false e more = more (sym (ap (λ b. if b then Some y else named f name ys) e) ∙ h)

  pub number_none : (xs : List A) → number_among (map f xs) name ≡ None → named f name xs ≡ None
  number_none [] h = refl
  number_none (x ∷ xs) h = by_test (bytes_eq (f x) name) refl (λ k. number_none xs k)
    where
      more : (o : Option ℕ) → option_map (λ k. k + 1) o ≡ None → o ≡ None
      more None e = refl
      more (Some k) e = absurd cc

      by_test : (b : Bool) → bytes_eq (f x) name ≡ b → (number_among (map f xs) name ≡ None → named f name xs ≡ None) → named f name (x ∷ xs) ≡ None
      by_test true e rest =
          let clash : (let r : Option ℕ = Some 0 in r) ≡ None = sym (ap (λ b. if b then Some 0 else option_map (λ k. k + 1) (number_among (map f xs) name)) e) ∙ h in
          absurd cc
      by_test false e rest =
          ap (λ b. if b then Some x else named f name xs) e
          ∙ rest (more (number_among (map f xs) name) (sym (ap (λ b. if b then Some 0 else option_map (λ k. k + 1) (number_among (map f xs) name)) e) ∙ h))

  pub number_some : (xs : List A) (n : ℕ) → number_among (map f xs) name ≡ Some n → (x : A) × (named f name xs ≡ Some x) × (slice_get xs n ≡ Some x)
  number_some [] n h = absurd cc
  number_some (x ∷ xs) n h = by_test (bytes_eq (f x) name) refl (λ k e. number_some xs k e)
    where
      more : (o : Option ℕ) → option_map (λ k. k + 1) o ≡ Some n → (k : ℕ) × (o ≡ Some k) × (n ≡ suc k)
      more None e = absurd cc
      more (Some k) e = let same : k + 1 ≡ n = cc in (k, refl, omega (arith, same))

      by_test : (b : Bool) → bytes_eq (f x) name ≡ b
          → ((k : ℕ) → number_among (map f xs) name ≡ Some k → (y : A) × (named f name xs ≡ Some y) × (slice_get xs k ≡ Some y))
          → (y : A) × (named f name (x ∷ xs) ≡ Some y) × (slice_get (x ∷ xs) n ≡ Some y)
      by_test true e behind =
          let first : Some 0 ≡ Some n = sym (ap (λ b. if b then Some 0 else option_map (λ k. k + 1) (number_among (map f xs) name)) e) ∙ h in
          let zeroth : 0 ≡ n = cc in
          (x, ap (λ b. if b then Some x else named f name xs) e, ap (slice_get (x ∷ xs)) (sym zeroth))
      by_test false e behind =
          let later = more (number_among (map f xs) name) (sym (ap (λ b. if b then Some 0 else option_map (λ k. k + 1) (number_among (map f xs) name)) e) ∙ h) in
          let rest = behind later.0 later.1 in
          (rest.0, ap (λ b. if b then Some x else named f name xs) e ∙ rest.1, ap (slice_get (x ∷ xs)) later.2 ∙ rest.2)

-- ---- two lists with the same names

module _ {A B : Type 0} (f : A → List ℕ) (g : B → List ℕ) (name : List ℕ) where
  pub both_none : (xs : List A) (ys : List B) → map f xs ≡ map g ys → named f name xs ≡ None → named g name ys ≡ None
  both_none [] [] e h = refl
  both_none [] (y ∷ ys) e h = absurd cc
  both_none (x ∷ xs) [] e h = absurd cc
  both_none (x ∷ xs) (y ∷ ys) e h = by_test (bytes_eq (f x) name) refl (λ k. both_none xs ys rest k)
    where
      head : f x ≡ g y
      head = cc

      rest : map f xs ≡ map g ys
      rest = cc

      by_test : (b : Bool) → bytes_eq (f x) name ≡ b → (named f name xs ≡ None → named g name ys ≡ None) → named g name (y ∷ ys) ≡ None
      by_test true t more = let clash : Some x ≡ None = sym (ap (λ b. if b then Some x else named f name xs) t) ∙ h in absurd cc
      by_test false t more =
          ap (λ b. if b then Some y else named g name ys) (ap (λ n. bytes_eq n name) (sym head) ∙ t)
          ∙ more (sym (ap (λ b. if b then Some x else named f name xs) t) ∙ h)
