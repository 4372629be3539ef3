-- Operations one after another.
use Rattle.std.proofs.Common.{◌≡◌, ℕ, suc, zero, List, [], ◌∷◌, ◌++◌, Option, Some, None, map, take, refl, sym, ap, ◌∙◌}
use Rattle.std.proofs.Common.{◌+◌, ◌<◌, length, get_or, option_map, Bool, true, false, arith}
use Rattle.std.specs.Prelude.{slice_get, if◌then◌else◌}
use Rattle.std.specs.Str.{bytes_eq}
use Rattle.gv_terms.specs.declared.var.Var.{Var}
use Rattle.gv_smallspec.specs.SmallSpec.{place_of}
use Rattle.std.proofs.lemmas.List.{map-append, take_more}

take_one : {A : Type 0} (xs : List A) (at : ℕ) (x : A) → slice_get xs at ≡ Some x → take (suc at) xs ≡ take at xs ++ x ∷ []
take_one [] at x e = absurd cc
take_one (a ∷ xs) zero x e = let same : a ≡ x = cc in ap (λ b. b ∷ []) same
take_one (a ∷ xs) (suc at) x e = ap (λ ys. a ∷ ys) (take_one xs at x e)

next_suc : {A B : Type 0} (f : A → Option B) (xs : List A) (ys : List B) (at : ℕ) (x : A) (y : B) → slice_get xs at ≡ Some x → f x ≡ Some y
    → map f (take at xs) ≡ map Some ys → map f (take (suc at) xs) ≡ map Some (ys ++ y ∷ [])
next_suc f xs ys at x y is good stand =
    ap (map f) (take_one xs at x is)
    ∙ map-append f (take at xs) (x ∷ [])
    ∙ ap (λ os. os ++ f x ∷ []) stand
    ∙ ap (λ o. map Some ys ++ o ∷ []) good
    ∙ sym (map-append Some ys (y ∷ []))

pub next_value : {A B : Type 0} (f : A → Option B) (xs : List A) (ys more : List B) (at : ℕ) (x : A) (y : B) → slice_get xs at ≡ Some x → f x ≡ Some y
    → more ≡ ys ++ y ∷ [] → map f (take at xs) ≡ map Some ys → map f (take (at + 1) xs) ≡ map Some more
next_value f xs ys more at x y is good e stand =
    let one : at + 1 ≡ suc at = omega arith in
    ap (λ k. map f (take k xs)) one ∙ next_suc f xs ys at x y is good stand ∙ ap (map Some) (sym e)

pub no_value : {A B : Type 0} (f : A → Option B) (xs : List A) (ys : List B) (at : ℕ) (x : A) → slice_get xs at ≡ Some x → f x ≡ None
    → map f xs ≡ map Some ys → ⊥
no_value f [] ys at x e g h = absurd cc
no_value f (a ∷ xs) [] at x e g h = absurd cc
no_value f (a ∷ xs) (y ∷ ys) zero x e g h =
    let same : Some a ≡ Some x = e in
    let first : f a ≡ Some y = cc in
    absurd cc
no_value f (a ∷ xs) (y ∷ ys) (suc at) x e g h =
    let left : map f xs ≡ map Some ys = cc in
    no_value f xs ys at x e g left

-- ---- places of names

module _ (n : List ℕ) where
  head_differs : (b : Bool) (p : Option ℕ) → (if b then Some 0 else option_map (λ at. at + 1) p) ≡ None → (b ≡ false) × (p ≡ None)
  head_differs true p e = absurd cc
  head_differs false None e = (refl, refl)
  head_differs false (Some k) e = absurd cc

  none_more : (vars : List Var) (v : Var) → place_of vars n ≡ None → bytes_eq v.name n ≡ false → place_of (vars ++ v ∷ []) n ≡ None
  none_more [] v e f = ap (λ b. if b then Some 0 else None) f
  none_more (u ∷ vars) v e f =
      let h = head_differs (bytes_eq u.name n) (place_of vars n) e in
      ap (λ b. if b then Some 0 else option_map (λ at. at + 1) (place_of (vars ++ v ∷ []) n)) h.0 ∙ ap (option_map (λ at. at + 1)) (none_more vars v h.1 f)

  -- the variable at a place has another name
  pub not_yet : (vars : List Var) (at : ℕ) (v : Var) → at < length vars → v ≡ get_or vars at v → bytes_eq v.name n ≡ false → place_of (take at vars) n ≡ None
      → place_of (take (at + 1) vars) n ≡ None
  not_yet vars at v lt is f e =
      ap (λ vs. place_of vs n) (take_more vars at v lt ∙ ap (λ u. take at vars ++ u ∷ []) (sym is)) ∙ none_more (take at vars) v e f

  -- it is the first one with the name
  pub found_at : (vars : List Var) (at : ℕ) (v : Var) → at < length vars → v ≡ get_or vars at v → bytes_eq v.name n ≡ true → place_of (take at vars) n ≡ None
      → place_of vars n ≡ Some at
  found_at [] at v lt is same e = absurd (let l : at < 0 = lt in omega (arith, l))
  found_at (u ∷ vars) zero v lt is same e =
      let here : bytes_eq u.name n ≡ true = ap (λ (w : Var). bytes_eq w.name n) (sym is) ∙ same in
      ap (λ b. if b then Some 0 else option_map (λ at. at + 1) (place_of vars n)) here
  found_at (u ∷ vars) (suc at) v lt is same e =
      let h = head_differs (bytes_eq u.name n) (place_of (take at vars) n) e in
      let l : suc at < suc (length vars) = lt in
      let one : at + 1 ≡ suc at = omega arith in
      ap (λ b. if b then Some 0 else option_map (λ at. at + 1) (place_of vars n)) h.0
      ∙ ap (option_map (λ at. at + 1)) (found_at vars at v (omega (arith, l)) is same h.1) ∙ ap Some one
