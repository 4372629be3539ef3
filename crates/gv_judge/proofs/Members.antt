-- What is one of a list: of lists put together, of images, and of numbers in a row.
use Rattle.std.proofs.Common.{◌≡◌, ◌⊎◌, ℕ, ◌+◌, ◌<◌, ◌≤◌, zero, suc, List, [], ◌∷◌, ◌++◌, map, refl, ap, subst, inl, inr, arith}
use Rattle.std.specs.List.{flat_map}
use Rattle.gv_judge.specs.Search.{count_up}
use Rattle.gv_judge.specs.SearchLaws.{IsIn}

pub in_left : {A : Type 0} (x : A) (xs ys : List A) → IsIn x xs → IsIn x (xs ++ ys)
in_left x [] ys h = absurd h
in_left x (z ∷ xs) ys (inl e) = inl e
in_left x (z ∷ xs) ys (inr h) = inr (in_left x xs ys h)

pub in_right : {A : Type 0} (x : A) (xs ys : List A) → IsIn x ys → IsIn x (xs ++ ys)
in_right x [] ys h = h
in_right x (z ∷ xs) ys h = inr (in_right x xs ys h)

pub in_either : {A : Type 0} (x : A) (xs ys : List A) → IsIn x (xs ++ ys) → IsIn x xs ⊎ IsIn x ys
in_either x [] ys h = inr h
in_either x (z ∷ xs) ys (inl e) = inl (inl e)
in_either x (z ∷ xs) ys (inr h) = elim (in_either x xs ys h) [
  | inl k ↦ inl (inr k)
  | inr k ↦ inr k
]

pub map_in : {A B : Type 0} (f : A → B) (x : A) (xs : List A) → IsIn x xs → IsIn (f x) (map f xs)
map_in f x [] h = absurd h
map_in f x (z ∷ xs) (inl e) = inl (ap f e)
map_in f x (z ∷ xs) (inr h) = inr (map_in f x xs h)

-- what an image is the image of
pub record Source {A B : Type 0} (f : A → B) (y : B) (xs : List A) : Type 0 where
  pub from : A
  pub is_in : IsIn from xs
  pub image : y ≡ f from

pub in_map : {A B : Type 0} (f : A → B) (y : B) (xs : List A) → IsIn y (map f xs) → Source f y xs
in_map f y [] h = absurd h
in_map f y (x ∷ xs) (inl e) = record { from = x; is_in = inl refl; image = e }
in_map f y (x ∷ xs) (inr h) = (let s = in_map f y xs h in record { from = s.from; is_in = inr s.is_in; image = s.image })

pub flat_in : {A B : Type 0} (f : A → List B) (y : B) (x : A) (xs : List A) → IsIn x xs → IsIn y (f x) → IsIn y (flat_map f xs)
flat_in f y x [] h k = absurd h
flat_in f y x (z ∷ xs) (inl e) k = in_left y (f z) (flat_map f xs) (subst (λ w. IsIn y (f w)) e k)
flat_in f y x (z ∷ xs) (inr h) k = in_right y (f z) (flat_map f xs) (flat_in f y x xs h k)

pub record Among {A B : Type 0} (f : A → List B) (y : B) (xs : List A) : Type 0 where
  pub from : A
  pub is_in : IsIn from xs
  pub holds : IsIn y (f from)

pub in_flat : {A B : Type 0} (f : A → List B) (y : B) (xs : List A) → IsIn y (flat_map f xs) → Among f y xs
in_flat f y [] h = absurd h
in_flat f y (x ∷ xs) h = elim (in_either y (f x) (flat_map f xs) h) [
  | inl k ↦ record { from = x; is_in = inl refl; holds = k }
  | inr k ↦ (let a = in_flat f y xs k in record { from = a.from; is_in = inr a.is_in; holds = a.holds })
]

-- n is one of the numbers from i on
pub counted : (many i n : ℕ) → i ≤ n → n < i + many → IsIn n (count_up many i)
counted zero i n low high = absurd (omega (arith, low, high))
counted (suc many) i n low high = go (later i n low) (λ k. counted many (i + 1) n k (omega (arith, high)))
  where
    later : (i n : ℕ) → i ≤ n → (n ≡ i) ⊎ (i + 1 ≤ n)
    later zero zero h = inl refl
    later zero (suc n) h = inr (omega arith)
    later (suc i) zero h = absurd (omega (arith, h))
    later (suc i) (suc n) h = elim (later i n (omega (arith, h))) [
      | inl e ↦ inl (ap suc e)
      | inr k ↦ inr (omega (arith, k))
    ]

    go : (n ≡ i) ⊎ (i + 1 ≤ n) → (i + 1 ≤ n → IsIn n (count_up many (i + 1))) → IsIn n (count_up (suc many) i)
    go (inl e) rest = inl e
    go (inr k) rest = inr (rest k)

-- where such a number stands
pub count_of : (many i n : ℕ) → IsIn n (count_up many i) → (i ≤ n) × (n < i + many)
count_of zero i n h = absurd h
count_of (suc many) i n (inl e) = (omega (arith, e), omega (arith, e))
count_of (suc many) i n (inr h) = (let rest = count_of many (i + 1) n h in (omega (arith, rest.0), omega (arith, rest.1)))
