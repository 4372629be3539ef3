-- What a check of factors is to answer.
use Rattle.std.specs.Prelude.{◌≡◌, ℕ, ◌<◌, ◌≤◌, ℤ, pos, ◌<ℤ◌, List, length, Bool, false, MatchBool}
use Rattle.std.specs.List.{zip, HoldsAt}
use Rattle.gv_linear.specs.declared.row.Row.{Row}
use Rattle.gv_linear.specs.declared.answer.Linear.{Linear}
use Rattle.gv_linear.specs.declared.answer.Linear.TheVariants.{Yes, Negative, Wide, NotContradiction}
use Rattle.gv_linear.specs.Columns.{products, total, IsFirstWideIn, IsNarrow}

-- ---- factors

-- a row that isn't `same`, with a factor below 0
abbrev pub IsNegative : Row × ℤ → Type 0
IsNegative p = (p.0.same ≡ false) × (p.1 <ℤ pos 0)

abbrev pub IsNegativeAt : List Row → List ℤ → ℕ → Type 0
IsNegativeAt rows factors row = (row < length rows) × HoldsAt IsNegative (zip rows factors) row

pub record IsFirstNegative (rows : List Row) (factors : List ℤ) (row : ℕ) : Type 0 where
  pub negative : IsNegativeAt rows factors row
  pub first : (r : ℕ) → r < row → ¬ IsNegativeAt rows factors r

-- ---- sums

-- the first product or partial sum that is wide: columns in order, in each the rows in order
pub record IsFirstWide (rows : List Row) (factors : List ℤ) (unknowns row column : ℕ) : Type 0 where
  pub within : column ≤ unknowns
  pub wide : IsFirstWideIn (products rows factors unknowns column) row
  pub first : (c : ℕ) → c < column → IsNarrow (products rows factors unknowns c)

-- every unknown falls out of the sum of all rows, and what stays is below 0
pub record IsContradiction (rows : List Row) (factors : List ℤ) (unknowns : ℕ) : Type 0 where
  pub zero : (c : ℕ) → c < unknowns → total (products rows factors unknowns c) ≡ pos 0
  pub below : total (products rows factors unknowns unknowns) <ℤ pos 0

-- no factor is negative where it may not be, and no sum is wide
pub record IsSummed (rows : List Row) (factors : List ℤ) (unknowns : ℕ) : Type 0 where
  pub signed : (r : ℕ) → ¬ IsNegativeAt rows factors r
  pub narrow : (c : ℕ) → c ≤ unknowns → IsNarrow (products rows factors unknowns c)

-- the columns before one are narrow; whether they all sum to 0
pub record IsSummedTo (rows : List Row) (factors : List ℤ) (unknowns column : ℕ) (zero : Bool) : Type 0 where
  pub within : column ≤ unknowns
  pub narrow : (c : ℕ) → c < column → IsNarrow (products rows factors unknowns c)
  pub zeros : MatchBool zero
      ((c : ℕ) → c < column → total (products rows factors unknowns c) ≡ pos 0)
      (((c : ℕ) → c < unknowns → total (products rows factors unknowns c) ≡ pos 0) → ⊥)

-- ---- the answer

abbrev pub IsAnswer : List Row → List ℤ → ℕ → Linear → Type 0
IsAnswer rows factors unknowns (Negative row) = IsFirstNegative rows factors row
IsAnswer rows factors unknowns (Wide row column) =
    ((r : ℕ) → ¬ IsNegativeAt rows factors r) × IsFirstWide rows factors unknowns row column
IsAnswer rows factors unknowns Yes = IsSummed rows factors unknowns × IsContradiction rows factors unknowns
IsAnswer rows factors unknowns NotContradiction = IsSummed rows factors unknowns × ¬ IsContradiction rows factors unknowns
