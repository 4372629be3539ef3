-- An order in which each number comes behind those that it names.
use Rattle.std.specs.Prelude.{ℕ, ◌⊎◌, ◌<◌, ◌≤◌, List, length, take}
use Rattle.std.specs.Prelude.{slice_index_or}
use Rattle.gv_cycles.specs.Leading.{IsIn, row, Leads}

-- what may be said of one that a number names: it comes before, or leads to that number, or has no row
abbrev pub IsBefore : List (List ℕ) → List ℕ → ℕ → ℕ → Type 0
IsBefore rows before n named = IsIn named before ⊎ (Leads rows named n ⊎ (length rows ≤ named))

-- Each number that has a row stands there, behind all that it names but what leads to it.
pub record IsOrder (rows : List (List ℕ)) (order : List ℕ) : Type 0 where
  pub complete : (n : ℕ) → n < length rows → IsIn n order
  pub behind : (i d named : ℕ) → i < length order → IsIn named (row rows (slice_index_or order i d)) → IsBefore rows (take i order) (slice_index_or order i d) named
  pub ranged : (i d : ℕ) → i < length order → slice_index_or order i d < length rows
  pub within : length order ≤ length rows
