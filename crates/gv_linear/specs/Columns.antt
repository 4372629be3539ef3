-- Columns: their products, their sums, and where these leave 128 bits.
use Rattle.std.specs.Prelude.{◌≡◌, ℕ, ◌+◌, ◌<◌, ◌≤◌, Bool, MatchBool, ℤ, pos, ◌+ℤ◌, ◌*ℤ◌, List, length, take, map, fold, FitsSigned, ◌⊎◌, Option, Some, None}
use Rattle.std.specs.List.{zip, slice_index_or}
use Rattle.std.specs.Int.{w128}
use Rattle.gv_linear.specs.declared.row.Row.{Row}
use Rattle.gv_linear.specs.Row.{entry}

-- the factor of each row times what the row has in the column
abbrev pub products : List Row → List ℤ → ℕ → ℕ → List ℤ
products rows factors unknowns column = map (λ (p : Row × ℤ). p.1 *ℤ entry unknowns column p.0) (zip rows factors)

abbrev pub total : List ℤ → ℤ
total xs = fold ◌+ℤ◌ (pos 0) xs

-- the product of a row, or the sum of the products up to it, is outside -2^127 to 2^127-1
abbrev pub IsWide : List ℤ → ℕ → Type 0
IsWide ps row =
    (row < length ps)
    × (¬ FitsSigned w128 (slice_index_or ps row (pos 0)) ⊎ ¬ FitsSigned w128 (total (take (row + 1) ps)))

-- the first row of a column where that is so
pub record IsFirstWideIn (ps : List ℤ) (row : ℕ) : Type 0 where
  pub wide : IsWide ps row
  pub first : (r : ℕ) → r < row → ¬ IsWide ps r

abbrev pub IsNarrow : List ℤ → Type 0
IsNarrow ps = (r : ℕ) → ¬ IsWide ps r

-- a product added to a sum, or nothing where one of the two is wide
abbrev pub IsAdded : ℤ → ℤ → Option ℤ → Type 0
IsAdded sum product None = ¬ FitsSigned w128 product ⊎ ¬ FitsSigned w128 (sum +ℤ product)
IsAdded sum product (Some more) =
    FitsSigned w128 product × FitsSigned w128 (sum +ℤ product) × (more ≡ sum +ℤ product)

-- the sum of the first products, none of which is wide
pub record IsSumOf (ps : List ℤ) (count : ℕ) (sum : ℤ) : Type 0 where
  pub sum_is : sum ≡ total (take count ps)
  pub fits : FitsSigned w128 sum
  pub narrow : (r : ℕ) → r < count → ¬ IsWide ps r

-- the sums, over the first rows, of the columns from one on
abbrev pub AreColumnsTo : List Row → List ℤ → ℕ → ℕ → ℕ → List ℤ → Type 0
AreColumnsTo rows factors unknowns from count sums =
    (k : ℕ) → k < length sums → IsSumOf (products rows factors unknowns (from + k)) count (slice_index_or sums k (pos 0))

-- no sum of these columns is wide, and whether all are 0
pub record AreSummed (rows : List Row) (factors : List ℤ) (unknowns from width : ℕ) (zero : Bool) : Type 0 where
  pub narrow : (c : ℕ) → from ≤ c → c < from + width → IsNarrow (products rows factors unknowns c)
  pub zeros : MatchBool zero
      ((c : ℕ) → from ≤ c → c < from + width → total (products rows factors unknowns c) ≡ pos 0)
      (((c : ℕ) → from ≤ c → c < from + width → total (products rows factors unknowns c) ≡ pos 0) → ⊥)
