-- The items of a row: where an unknown stands, and that what isn't there has the coefficient 0.
use Rattle.std.proofs.Common.{◌≡◌, ℕ, zero, suc, ◌<◌, ◌≤◌, List, [], ◌∷◌, length, get_or, ltb, refl, sym, ap, subst, ◌∙◌, ◌⊎◌, inl, inr, arith}
use Rattle.std.proofs.Math.IntN.{ℤ, pos}
use Rattle.std.proofs.Common.{Some, None}
use Rattle.std.proofs.lemmas.Option.{get_or_from_slice_get, slice_get_within, slice_get-get_or}
use Rattle.std.proofs.lemmas.Bool.{cases_lt}
use Rattle.std.specs.Prelude.{slice_get}
use Rattle.std.specs.Prelude.{AllPairs}
use Rattle.std.specs.List.Sorted.{IsPartitionedBy}
use Rattle.gv_linear.specs.Row.{coefficient}

abbrev pub Items : Type 0
Items = List (ℕ × ℤ)

-- an unknown that no item has
pub coefficient_of_none : (c : ℕ) (items : Items) → ((k : ℕ) (d : ℕ × ℤ) → k < length items → (get_or items k d).0 ≡ c → ⊥) → coefficient c items ≡ pos 0
coefficient_of_none c [] h = refl
coefficient_of_none c (item ∷ items) h =
    let tail : coefficient c items ≡ pos 0 = coefficient_of_none c items (λ k d l. h (suc k) d (omega arith)) in
    let head : item.0 ≡ c → ⊥ = h 0 item (omega arith) in
    grind (arith, tail, head)

-- the unknown of the item at a place, before which there are lower ones alone
pub coefficient_at : (c : ℕ) (items : Items) (i : ℕ) (d : ℕ × ℤ) → i < length items → ((k : ℕ) (d : ℕ × ℤ) → k < i → (get_or items k d).0 < c) → (get_or items i d).0 ≡ c → coefficient c items ≡ (get_or items i d).1
coefficient_at c [] i d l before e = absurd (omega arith)
coefficient_at c (item ∷ items) zero d l before e = grind (arith, e)
coefficient_at c (item ∷ items) (suc i) d l before e =
    let head : item.0 < c = before 0 item (omega arith) in
    let tail : coefficient c items ≡ (get_or items i d).1 = coefficient_at c items i d (omega arith) (λ k d l. before (suc k) d (omega arith)) e in
    grind (arith, tail, head)

-- what a search by halves asks for
pub parted : (c : ℕ) (items : Items) → AllPairs (λ i j. i.0 < j.0) items → IsPartitionedBy (λ (i : ℕ × ℤ). ltb i.0 c) items
parted c items up i j d le l t = grind (arith, up i j d)

abbrev pub Below : Items → ℕ → ℕ → Type 0
Below items i u = (k : ℕ) (d : ℕ × ℤ) → k < i → (get_or items k d).0 < u

-- an item before which there are lower unknowns alone
pub coefficient_of_item : (c : ℕ) (items : Items) (i : ℕ) (item : ℕ × ℤ) → slice_get items i ≡ Some item → Below items i c → item.0 ≡ c → coefficient c items ≡ item.1
coefficient_of_item c items i item is before e =
    let at : get_or items i item ≡ item = get_or_from_slice_get items i item item is in
    let coefficient-is = coefficient_at c items i item (slice_get_within items i item is) before (ap (λ (d : ℕ × ℤ). d.0) at ∙ e) in
    coefficient-is ∙ ap (λ (d : ℕ × ℤ). d.1) at

-- what lies between the unknowns before a place and the one there
pub coefficient_before : (c from : ℕ) (items : Items) (i : ℕ) (item : ℕ × ℤ) → AllPairs (λ i j. i.0 < j.0) items → slice_get items i ≡ Some item → Below items i from → from ≤ c → c < item.0 → coefficient c items ≡ pos 0
coefficient_before c from items i item up is before low high =
    let at : get_or items i item ≡ item = get_or_from_slice_get items i item item is in
    let here : (get_or items i item).0 ≡ item.0 = ap (λ (d : ℕ × ℤ). d.0) at in
    let none : (k : ℕ) (d : ℕ × ℤ) → k < length items → (get_or items k d).0 ≡ c → ⊥ =
    λ k d l e. other k d l e (cases_lt k i) in
    coefficient_of_none c items none
  where
    beyond : (k : ℕ) (d : ℕ × ℤ) → k < length items → (get_or items k d).0 ≡ c → ((i < k) ⊎ (k ≤ i)) → i ≤ k → ⊥
    beyond k d l e (inl b) le = let at : get_or items i d ≡ item = get_or_from_slice_get items i item d is in let above : (get_or items i d).0 < (get_or items k d).0 = up i k d b l in let here : (get_or items i d).0 ≡ item.0 = ap (λ (d : ℕ × ℤ). d.0) at in omega arith
    beyond k d l e (inr b) le = let same : k ≡ i = omega arith in let at : get_or items i d ≡ item = get_or_from_slice_get items i item d is in let here : (get_or items i d).0 ≡ item.0 = ap (λ (d : ℕ × ℤ). d.0) at in let moved : (get_or items i d).0 ≡ c = subst (λ (n : ℕ). (get_or items n d).0 ≡ c) same e in omega arith

    other : (k : ℕ) (d : ℕ × ℤ) → k < length items → (get_or items k d).0 ≡ c → ((k < i) ⊎ (i ≤ k)) → ⊥
    other k d l e (inl b) = let lower = before k d b in omega arith
    other k d l e (inr b) = beyond k d l e (cases_lt i k) b

-- what lies behind all of them
pub coefficient_behind : (c from : ℕ) (items : Items) (i : ℕ) → slice_get items i ≡ None → Below items i from → from ≤ c → coefficient c items ≡ pos 0
coefficient_behind c from items i is before low = coefficient_of_none c items (λ k d l e. inside k d l e (cases_lt k i))
  where
    inside : (k : ℕ) (d : ℕ × ℤ) → k < length items → (get_or items k d).0 ≡ c → ((k < i) ⊎ (i ≤ k)) → ⊥
    inside k d l e (inl b) = let lower = before k d b in omega arith
    inside k d l e (inr b) = let short : i < length items = omega arith in let some = slice_get-get_or items i d short in let clash = sym is ∙ some in cc
