-- Why factors that pass show a contradiction: the rows, each times its factor, sum to something that is not below 0 where all
-- rows are met, and to the constants' sum where the unknowns fall out.
use Rattle.std.proofs.Common.{◌≡◌, ℕ, zero, suc, ◌<◌, ◌≤◌, Bool, true, false, List, [], ◌∷◌, map, length, get_or, refl, sym, ap, subst, ◌∙◌, inl, inr, arith}
use Rattle.std.proofs.Math.IntN.{ℤ, pos, negsuc, ◌+ℤ◌, ◌*ℤ◌, +ℤ_idl, +ℤ_idr, +ℤ_assoc, *ℤ-zero, zero-*ℤ}
use Rattle.std.proofs.lemmas.Int.{ints}
use Rattle.std.proofs.lemmas.Bool.{cases_order}
use Rattle.std.proofs.lemmas.List.Elements.{All-tail, All-head}
use Rattle.std.specs.Prelude.{All, AllPairs, fold, ◌≤ℤ◌, ◌<ℤ◌, MatchBool}
use Rattle.std.specs.List.{zip}
use Rattle.gv_linear.specs.declared.row.Row.{Row}
use Rattle.gv_linear.specs.Row.{items_sum, value_at, Holds, coefficient, entry, IsInOrder, AreContradictory}
use Rattle.gv_linear.specs.Columns.{total}
use Rattle.gv_linear.specs.Answer.{IsNegativeAt, IsContradiction}
use Rattle.gv_linear.proofs.IntegerLaws.{spread, spread_right, regroup, product_not_below}
use Rattle.gv_linear.proofs.RowLemmas.{Items, coefficient_of_none}

-- ---- sums

total_from : (a : ℤ) (xs : List ℤ) → fold ◌+ℤ◌ a xs ≡ a +ℤ total xs
total_from a [] = sym (+ℤ_idr a)
total_from a (x ∷ xs) = total_from (a +ℤ x) xs ∙ +ℤ_assoc a x (total xs) ∙ ap (λ y. a +ℤ y) (sym (ap (λ y. y +ℤ total xs) (+ℤ_idl x)) ∙ sym (total_from (pos 0 +ℤ x) xs))

pub total-cons : (x : ℤ) (xs : List ℤ) → total (x ∷ xs) ≡ x +ℤ total xs
total-cons x xs = total_from (pos 0 +ℤ x) xs ∙ ap (λ y. y +ℤ total xs) (+ℤ_idl x)

-- the rows' sum, each times its factor, of what is read off a row
abbrev pub combined : (Row → ℤ) → List (Row × ℤ) → ℤ
combined e ps = total (map (λ (p : Row × ℤ). p.1 *ℤ e p.0) ps)

combined-cons : (e : Row → ℤ) (p : Row × ℤ) (ps : List (Row × ℤ)) → combined e (p ∷ ps) ≡ (p.1 *ℤ e p.0) +ℤ combined e ps
combined-cons e p ps = total-cons (p.1 *ℤ e p.0) (map (λ (p : Row × ℤ). p.1 *ℤ e p.0) ps)

-- a sum of two, the second times one number
combined_sum : (e f g : Row → ℤ) (k : ℤ) → ((row : Row) → e row ≡ f row +ℤ (g row *ℤ k)) → (ps : List (Row × ℤ)) → combined e ps ≡ combined f ps +ℤ (combined g ps *ℤ k)
combined_sum e f g k h [] = omega (arith, ints, zero-*ℤ k)
combined_sum e f g k h (p ∷ ps) =
    let left = combined-cons e p ps in
    let first = combined-cons f p ps in
    let second = combined-cons g p ps in
    let rest = combined_sum e f g k h ps in
    let head : p.1 *ℤ e p.0 ≡ (p.1 *ℤ f p.0) +ℤ ((p.1 *ℤ g p.0) *ℤ k) = ap (λ y. p.1 *ℤ y) (h p.0) ∙ spread p.1 (f p.0) (g p.0 *ℤ k) ∙ ap (λ y. (p.1 *ℤ f p.0) +ℤ y) (sym (regroup p.1 (g p.0) k)) in
    let parts : combined g (p ∷ ps) *ℤ k ≡ ((p.1 *ℤ g p.0) *ℤ k) +ℤ (combined g ps *ℤ k) = ap (λ y. y *ℤ k) second ∙ spread_right (p.1 *ℤ g p.0) (combined g ps) k in
    omega (arith, ints, left, first, rest, head, parts)

combined_same : (e f : Row → ℤ) (rows : List Row) (factors : List ℤ) → All (λ row. e row ≡ f row) rows → combined e (zip rows factors) ≡ combined f (zip rows factors)
combined_same e f [] factors h = refl
combined_same e f (row ∷ rows) [] h = refl
combined_same e f (row ∷ rows) (k ∷ factors) h =
    let head : k *ℤ e row ≡ k *ℤ f row = ap (λ y. k *ℤ y) (All-head (λ row. e row ≡ f row) row rows h) in
    let tail = combined_same e f rows factors (All-tail (λ row. e row ≡ f row) row rows h) in
    combined-cons e (row, k) (zip rows factors) ∙ ap (λ y. y +ℤ combined e (zip rows factors)) head ∙ ap (λ y. (k *ℤ f row) +ℤ y) tail ∙ sym (combined-cons f (row, k) (zip rows factors))

-- ---- a row's value, unknown by unknown

module _ (x : ℕ → ℤ) where
  by_unknowns : ℕ → Items → ℤ
  by_unknowns zero items = pos 0
  by_unknowns (suc n) items = by_unknowns n items +ℤ (coefficient n items *ℤ x n)

  by_unknowns_of_none : (n : ℕ) → by_unknowns n [] ≡ pos 0
  unfolding by_unknowns
  by_unknowns_of_none zero = refl
  by_unknowns_of_none (suc n) = ap (λ y. y +ℤ (pos 0 *ℤ x n)) (by_unknowns_of_none n) ∙ ap (λ y. pos 0 +ℤ y) (zero-*ℤ (x n))

  -- an item of a later unknown isn't seen
  not_seen : (n : ℕ) (item : ℕ × ℤ) (items : Items) → n ≤ item.0 → by_unknowns n (item ∷ items) ≡ by_unknowns n items
  unfolding by_unknowns
  not_seen zero item items h = refl
  not_seen (suc n) item items h =
      let before = not_seen n item items (omega arith) in
      let here : coefficient n (item ∷ items) ≡ coefficient n items = grind arith in
      ap (λ y. y +ℤ (coefficient n (item ∷ items) *ℤ x n)) before ∙ ap (λ y. by_unknowns n items +ℤ (y *ℤ x n)) here

  seen : (n : ℕ) (item : ℕ × ℤ) (items : Items) → coefficient item.0 items ≡ pos 0 → item.0 < n → by_unknowns n (item ∷ items) ≡ (item.1 *ℤ x item.0) +ℤ by_unknowns n items
  unfolding by_unknowns
  seen zero item items none h = absurd (omega arith)
  seen (suc n) item items none h = elim (cases_order item.0 n) [ inl same ↦ last same | inr other ↦ elim other [ inl lower ↦ earlier (seen n item items none lower) lower | inr above ↦ absurd (omega arith) ] ]
    where
      last : item.0 ≡ n → by_unknowns n (item ∷ items) +ℤ (coefficient n (item ∷ items) *ℤ x n) ≡ (item.1 *ℤ x item.0) +ℤ (by_unknowns n items +ℤ (coefficient n items *ℤ x n))
      last same =
          let before = not_seen n item items (omega arith) in
          let here : coefficient n (item ∷ items) ≡ item.1 = grind (arith, same) in
          let gone : coefficient n items *ℤ x n ≡ pos 0 = ap (λ y. y *ℤ x n) (subst (λ m. coefficient m items ≡ pos 0) same none) ∙ zero-*ℤ (x n) in
          let product : coefficient n (item ∷ items) *ℤ x n ≡ item.1 *ℤ x item.0 = ap (λ y. y *ℤ x n) here ∙ ap (λ m. item.1 *ℤ x m) (sym same) in
          omega (arith, ints, before, gone, product)

      earlier : by_unknowns n (item ∷ items) ≡ (item.1 *ℤ x item.0) +ℤ by_unknowns n items → item.0 < n → by_unknowns n (item ∷ items) +ℤ (coefficient n (item ∷ items) *ℤ x n) ≡ (item.1 *ℤ x item.0) +ℤ (by_unknowns n items +ℤ (coefficient n items *ℤ x n))
      earlier before lower =
          let here : coefficient n (item ∷ items) ≡ coefficient n items = grind arith in
          let product : coefficient n (item ∷ items) *ℤ x n ≡ coefficient n items *ℤ x n = ap (λ y. y *ℤ x n) here in
          omega (arith, ints, before, product)

  items_by_unknowns : (n : ℕ) (items : Items) → AllPairs (λ i j. i.0 < j.0) items → All (λ i. i.0 < n) items → items_sum x items ≡ by_unknowns n items
  items_by_unknowns n [] up below = sym (by_unknowns_of_none n)
  items_by_unknowns n (item ∷ items) up below =
      let none : coefficient item.0 items ≡ pos 0 = coefficient_of_none item.0 items (λ k d l e. let above : item.0 < (get_or items k d).0 = up 0 (suc k) d (omega arith) (omega arith) in omega arith) in
      let rest = items_by_unknowns n items (λ i j d l m. up (suc i) (suc j) d (omega arith) (omega arith)) (λ k d l. below (suc k) d (omega arith)) in
      let now = seen n item items none (below 0 item (omega arith)) in
      omega (arith, ints, rest, now)

  -- the value with the first unknowns alone
  upto : ℕ → Row → ℤ
  upto n row = by_unknowns n row.items +ℤ row.constant

  value_upto : (unknowns : ℕ) (row : Row) → IsInOrder unknowns row → value_at x row ≡ upto unknowns row
  unfolding upto
  value_upto unknowns row h = ap (λ y. y +ℤ row.constant) (items_by_unknowns unknowns row.items h.ascending h.below)

  upto_none : (row : Row) → upto 0 row ≡ row.constant
  unfolding upto by_unknowns
  upto_none row = +ℤ_idl row.constant

  upto_more : (n : ℕ) (row : Row) → upto (suc n) row ≡ upto n row +ℤ (coefficient n row.items *ℤ x n)
  unfolding upto by_unknowns
  upto_more n row = omega (arith, ints)

  -- ---- unknowns fall out

  fall_out : (rows : List Row) (factors : List ℤ) (unknowns n : ℕ) → n ≤ unknowns
      → ((c : ℕ) → c < unknowns → combined (λ row. coefficient c row.items) (zip rows factors) ≡ pos 0)
      → combined (upto n) (zip rows factors) ≡ combined (λ row. row.constant) (zip rows factors)
  fall_out rows factors unknowns zero h zeros = combined_same (upto 0) (λ row. row.constant) rows factors (λ k d l. upto_none (get_or rows k d))
  fall_out rows factors unknowns (suc n) h zeros =
      let ps = zip rows factors in
      let more = combined_sum (upto (suc n)) (upto n) (λ row. coefficient n row.items) (x n) (upto_more n) ps in
      let before = fall_out rows factors unknowns n (omega arith) zeros in
      let gone : combined (λ row. coefficient n row.items) ps *ℤ x n ≡ pos 0 = ap (λ y. y *ℤ x n) (zeros n (omega arith)) ∙ zero-*ℤ (x n) in
      omega (arith, ints, more, before, gone)

  -- ---- rows that are met

  part_not_below : (row : Row) (k : ℤ) → Holds x row → ((row.same ≡ false) × (k <ℤ pos 0) → ⊥) → pos 0 ≤ℤ (k *ℤ value_at x row)
  part_not_below row k holds signed = go row.same refl holds
    where
      signs : (k : ℤ) → (k <ℤ pos 0 → ⊥) → pos 0 ≤ℤ k
      signs (pos n) h = omega (arith, ints)
      signs (negsuc n) h = absurd (h (omega (arith, ints)))

      go : (b : Bool) → row.same ≡ b → MatchBool b (value_at x row ≡ pos 0) (pos 0 ≤ℤ value_at x row) → pos 0 ≤ℤ (k *ℤ value_at x row)
      go true e h = let zero-is : k *ℤ value_at x row ≡ pos 0 = ap (λ y. k *ℤ y) h ∙ *ℤ-zero k in omega (arith, ints, zero-is)
      go false e h = product_not_below k (value_at x row) (signs k (λ below. signed (e, below))) h

  not_below : (rows : List Row) (factors : List ℤ) → All (Holds x) rows → ((r : ℕ) → IsNegativeAt rows factors r → ⊥) → pos 0 ≤ℤ combined (value_at x) (zip rows factors)
  not_below [] factors holds signed = omega (arith, ints)
  not_below (row ∷ rows) [] holds signed = omega (arith, ints)
  not_below (row ∷ rows) (k ∷ factors) holds signed =
      let head = part_not_below row k (All-head (Holds x) row rows holds) (λ negative. signed 0 (omega arith, λ d. negative)) in
      let tail = not_below rows factors (All-tail (Holds x) row rows holds) (λ r negative. signed (suc r) (let l : r < length rows = negative.0 in omega arith, negative.1)) in
      let sum = combined-cons (value_at x) (row, k) (zip rows factors) in
      omega (arith, ints, head, tail, sum)

entry_of_unknown : (unknowns c : ℕ) (row : Row) → c < unknowns → entry unknowns c row ≡ coefficient c row.items
entry_of_unknown unknowns c row h = grind arith

entry_of_constant : (unknowns : ℕ) (row : Row) → entry unknowns unknowns row ≡ row.constant
entry_of_constant unknowns row = grind arith

pub contradictory : (rows : List Row) (factors : List ℤ) (unknowns : ℕ) → All (IsInOrder unknowns) rows → ((r : ℕ) → IsNegativeAt rows factors r → ⊥) → IsContradiction rows factors unknowns → AreContradictory rows
contradictory rows factors unknowns in_order signed sums x holds =
    let zeros : (c : ℕ) → c < unknowns → combined (λ row. coefficient c row.items) (zip rows factors) ≡ pos 0 =
    λ c l. sym (combined_same (entry unknowns c) (λ row. coefficient c row.items) rows factors (λ k d m. entry_of_unknown unknowns c (get_or rows k d) l)) ∙ sums.zero c l in
    let values = combined_same (value_at x) (upto x unknowns) rows factors (λ k d l. value_upto x unknowns (get_or rows k d) (in_order k d l)) in
    let out = fall_out x rows factors unknowns unknowns (omega arith) zeros in
    let constants = combined_same (entry unknowns unknowns) (λ row. row.constant) rows factors (λ k d l. entry_of_constant unknowns (get_or rows k d)) in
    let high = not_below x rows factors holds signed in
    let low : combined (entry unknowns unknowns) (zip rows factors) <ℤ pos 0 = sums.below in
    omega (arith, ints, values, out, constants, high, low)
