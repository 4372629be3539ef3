-- What a row says of whole numbers, and what it has in a column.
use Rattle.std.specs.Prelude.{◌≡◌, ℕ, ◌<◌, ◌==◌, ℤ, pos, ◌+ℤ◌, ◌*ℤ◌, ◌≤ℤ◌, List, [], ◌∷◌, All, AllPairs, MatchBool, if◌then◌else◌}
use Rattle.gv_linear.specs.declared.row.Row.{Row}

-- ---- what it says

-- the items' sum where the unknowns have these values
abbrev pub items_sum : (ℕ → ℤ) → List (ℕ × ℤ) → ℤ
items_sum x [] = pos 0
items_sum x (item ∷ items) = (item.1 *ℤ x item.0) +ℤ items_sum x items

abbrev pub value_at : (ℕ → ℤ) → Row → ℤ
value_at x row = items_sum x row.items +ℤ row.constant

-- the row is met
abbrev pub Holds : (ℕ → ℤ) → Row → Type 0
Holds x row = MatchBool row.same (value_at x row ≡ pos 0) (pos 0 ≤ℤ value_at x row)

-- ---- what it has in a column

-- the coefficient of an unknown: that of its item, or 0 where it has none
abbrev pub coefficient : ℕ → List (ℕ × ℤ) → ℤ
coefficient u [] = pos 0
coefficient u (item ∷ items) = if item.0 == u then item.1 else coefficient u items

-- a column of an unknown has the coefficients, the one after them the constants
abbrev pub entry : ℕ → ℕ → Row → ℤ
entry unknowns column row = if column == unknowns then row.constant else coefficient column row.items

-- ---- its form

-- the unknowns ascend, and there are no more of them than told
pub record IsInOrder (unknowns : ℕ) (row : Row) : Type 0 where
  pub ascending : AllPairs (λ i j. i.0 < j.0) row.items
  pub below : All (λ i. i.0 < unknowns) row.items

-- ---- rows together

-- no whole numbers meet all of them
abbrev pub AreContradictory : List Row → Type 0
AreContradictory rows = (x : ℕ → ℤ) → ¬ All (Holds x) rows
