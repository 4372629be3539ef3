-- A check of factors has an answer, whatever the rows are.
use Rattle.std.proofs.Common.{◌≡◌, ◌⊎◌, inl, inr, ℕ, zero, suc, ◌+◌, ◌<◌, ◌≤◌, ◌^◌, List, [], ◌∷◌, length, get_or, take, Bool, true, false, refl, sym, ◌∙◌, subst, arith}
use Rattle.std.specs.Prelude.{FitsSigned, ◌<ℤ◌, ◌≤ℤ◌}
use Rattle.std.specs.Int.{w128}
use Rattle.std.specs.List.{zip, HoldsAt, slice_index_or}
use Rattle.std.proofs.Math.IntN.{ℤ, pos, negsuc}
use Rattle.std.proofs.lemmas.Int.{ints}
use Rattle.std.proofs.lemmas.Bool.{cases_lt, cases_order}
use Rattle.gv_linear.specs.declared.row.Row.{Row}
use Rattle.gv_linear.specs.declared.answer.Linear.{Linear}
use Rattle.gv_linear.specs.declared.answer.Linear.TheVariants.{Yes, Negative, Wide, NotContradiction}
use Rattle.gv_linear.specs.Columns.{products, total, IsWide, IsFirstWideIn, IsNarrow}
use Rattle.gv_linear.specs.Answer.{IsNegative, IsNegativeAt, IsFirstWide, IsContradiction, IsSummed, IsAnswer}

-- the first number below n of the one kind, or all of the other
abbrev pub First : (ℕ → Type 0) → (ℕ → Type 0) → ℕ → Type 0
First P Q n = (k : ℕ) × (k < n) × P k × ((j : ℕ) → j < k → Q j)

module _ (P Q : ℕ → Type 0) (each : (k : ℕ) → P k ⊎ Q k) where
  pub first_of : (n : ℕ) → First P Q n ⊎ ((j : ℕ) → j < n → Q j)
  first_of zero = inr (λ j lt. absurd (omega (arith, lt)))
  first_of (suc n) = elim (first_of n) [
    | inl found ↦ inl (found.0, omega (arith, found.1), found.2, found.3)
    | inr none ↦ elim (each n) [
      | inl here ↦ inl (n, omega arith, here, none)
      | inr other ↦ inr (λ j lt. elim (cases_lt j n) [ inl low ↦ none j low | inr high ↦ subst Q (let lt = lt in let high = high in omega (arith, lt, high)) other ])
    ]
  ]

-- ---- what is told of numbers

pub fits_or : (z : ℤ) → FitsSigned w128 z ⊎ (FitsSigned w128 z → ⊥)
fits_or (pos n) = elim (cases_lt n (2 ^ 127)) [ inl low ↦ inl (omega (arith, ints, low)) | inr high ↦ inr (λ f. absurd (omega (arith, ints, high, f))) ]
fits_or (negsuc n) = elim (cases_lt n (2 ^ 127)) [ inl low ↦ inl (omega (arith, ints, low)) | inr high ↦ inr (λ f. absurd (omega (arith, ints, high, f))) ]

below_or : (z : ℤ) → (z <ℤ pos 0) ⊎ (z <ℤ pos 0 → ⊥)
below_or (pos n) = inr (λ h. absurd (omega (arith, ints, h)))
below_or (negsuc n) = inl (omega (arith, ints))

zero_or : (z : ℤ) → (z ≡ pos 0 → ⊥) ⊎ (z ≡ pos 0)
zero_or (pos zero) = inr refl
zero_or (pos (suc n)) = inl (λ e. absurd cc)
zero_or (negsuc n) = inl (λ e. absurd cc)

negative_or : (p : Row × ℤ) → IsNegative p ⊎ (IsNegative p → ⊥)
negative_or p = by_same p.0.same refl
  where
    by_same : (b : Bool) → p.0.same ≡ b → IsNegative p ⊎ (IsNegative p → ⊥)
    by_same true e = inr (λ h. let clash : true ≡ false = sym e ∙ h.0 in absurd cc)
    by_same false e = elim (below_or p.1) [ inl low ↦ inl (e, low) | inr high ↦ inr (λ h. high h.1) ]

abbrev plain_row : Row
plain_row = record { same = true; items = []; constant = pos 0 }

at_or : (ps : List (Row × ℤ)) (k : ℕ) → HoldsAt IsNegative ps k ⊎ (HoldsAt IsNegative ps k → ⊥)
at_or [] k = inr (λ h. let clash : true ≡ false = (h (plain_row, pos 0)).0 in absurd cc)
at_or (p ∷ ps) zero = elim (negative_or p) [ inl so ↦ inl (λ d. so) | inr but ↦ inr (λ h. but (h p)) ]
at_or (p ∷ ps) (suc k) = at_or ps k

module _ (rows : List Row) (factors : List ℤ) (unknowns : ℕ) where
  negative_at_or : (k : ℕ) → IsNegativeAt rows factors k ⊎ (IsNegativeAt rows factors k → ⊥)
  negative_at_or k = elim (cases_lt k (length rows)) [
    | inl low ↦ elim (at_or (zip rows factors) k) [ inl so ↦ inl (low, so) | inr but ↦ inr (λ h. but h.1) ]
    | inr high ↦ inr (λ h. let lt : k < length rows = h.0 in absurd (omega (arith, high, lt)))
  ]

  wide_or : (ps : List ℤ) (k : ℕ) → IsWide ps k ⊎ (IsWide ps k → ⊥)
  wide_or ps k = elim (cases_lt k (length ps)) [
    | inl low ↦ elim (fits_or (slice_index_or ps k (pos 0))) [
      | inr wide ↦ inl (low, inl wide)
      | inl fits ↦ elim (fits_or (total (take (k + 1) ps))) [ inr wide ↦ inl (low, inr wide) | inl also ↦ inr (λ h. elim h.1 [ inl a ↦ a fits | inr b ↦ b also ]) ]
    ]
    | inr high ↦ inr (λ h. let lt : k < length ps = h.0 in absurd (omega (arith, high, lt)))
  ]

  abbrev HasWide : ℕ → Type 0
  HasWide c = (r : ℕ) × IsFirstWideIn (products rows factors unknowns c) r

  abbrev HasNone : ℕ → Type 0
  HasNone c = IsNarrow (products rows factors unknowns c)

  column_or : (c : ℕ) → HasWide c ⊎ HasNone c
  column_or c =
      let ps = products rows factors unknowns c in
      elim (first_of (IsWide ps) (λ k. IsWide ps k → ⊥) (wide_or ps) (length ps)) [
        | inl found ↦ inl (found.0, record { wide = found.2; first = found.3 })
        | inr none ↦ inr (λ r wide. none r wide.0 wide)
      ]

  abbrev Signed : Type 0
  Signed = (r : ℕ) → IsNegativeAt rows factors r → ⊥

  contradiction_or : IsContradiction rows factors unknowns ⊎ (IsContradiction rows factors unknowns → ⊥)
  contradiction_or = elim (first_of (λ c. total (products rows factors unknowns c) ≡ pos 0 → ⊥) (λ c. total (products rows factors unknowns c) ≡ pos 0) (λ c. zero_or (total (products rows factors unknowns c))) unknowns) [
    | inl found ↦ inr (λ h. found.2 (h.zero found.0 found.1))
    | inr all ↦ elim (below_or (total (products rows factors unknowns unknowns))) [ inl low ↦ inl (record { zero = all; below = low }) | inr high ↦ inr (λ h. high h.below) ]
  ]

  of_sums : Signed → (answer : Linear) × IsAnswer rows factors unknowns answer
  of_sums signed = elim (first_of HasWide HasNone column_or (suc unknowns)) [
    | inl found ↦ (Wide found.2.0 found.0, (signed, record { within = omega (arith, found.1); wide = found.2.1; first = found.3 }))
    | inr none ↦
        (let summed : IsSummed rows factors unknowns = record { signed = signed; narrow = λ c le. none c (omega (arith, le)) } in
        elim contradiction_or [ inl so ↦ (Yes, (summed, so)) | inr but ↦ (NotContradiction, (summed, but)) ])
  ]

  pub some_answer : (answer : Linear) × IsAnswer rows factors unknowns answer
  some_answer = elim (first_of (IsNegativeAt rows factors) (λ k. IsNegativeAt rows factors k → ⊥) negative_at_or (length rows)) [
    | inl found ↦ (Negative found.0, record { negative = found.2; first = found.3 })
    | inr none ↦ of_sums (λ r negative. none r negative.0 negative)
  ]
