-- Numbers that lead back to themselves, by the rows of those that each of them names.
use Rattle.std.specs.Prelude.{◌≡◌, ◌⊎◌, slice_index_or, ℕ, suc, ◌<◌, Bool, true, false, if◌then◌else◌, List, [], ◌∷◌, ◌++◌, length, slice_set}
use Rattle.gv_cycles.specs.Leading.{IsIn, row, LeadsIn}
use Rattle.gv_cycles.specs.Search.{is_new_in, seen_count}

-- one leads to another in a step at least, and in so many at most
pub record LeadsWithin (most : ℕ) (rows : List (List ℕ)) (from to : ℕ) : Type 0 where
  pub steps : ℕ
  pub few : steps < most
  pub path : LeadsIn (suc steps) rows from to

-- What is told of a number: that it leads back to itself, in no more steps than there are rows, or that it doesn't in any number of steps.
abbrev pub IsTold : List (List ℕ) → ℕ → Bool → Type 0
IsTold rows n true = LeadsWithin (length rows) rows n n
IsTold rows n false = (steps : ℕ) → LeadsIn (suc steps) rows n n → ⊥

-- ---- a search

-- what is seen, and what waits, where a number was seen
abbrev pub seen_with : List Bool → ℕ → List Bool
seen_with seen n = if is_new_in seen n then slice_set seen n true else seen

abbrev pub waiting_with : List Bool → List ℕ → ℕ → List ℕ
waiting_with seen waiting n = if is_new_in seen n then waiting ++ n ∷ [] else waiting

-- it is where the search began, or it is seen
abbrev pub IsKnown : ℕ → List Bool → ℕ → Type 0
IsKnown start seen n = (n ≡ start) ⊎ ((n < length seen) × (slice_index_or seen n true ≡ true))

-- all that it names are seen, and none is where the search began
abbrev pub IsPassed : List (List ℕ) → ℕ → List Bool → ℕ → Type 0
IsPassed rows start seen n = (m : ℕ) → IsIn m (row rows n) → (m ≡ start → ⊥) × (slice_index_or seen m true ≡ true)

-- Of those that are known some wait, these are looked at, and the others are passed.
pub record IsSpread (rows : List (List ℕ)) (start : ℕ) (looked : List ℕ) (seen : List Bool) (waiting : List ℕ) : Type 0 where
  pub sized : length seen ≡ length rows
  pub fresh : slice_index_or seen start true ≡ false
  pub reached : (n : ℕ) → n < length seen → slice_index_or seen n true ≡ true → LeadsWithin (seen_count seen) rows start n
  pub known : (n : ℕ) → IsIn n waiting → IsKnown start seen n
  pub closed : (n : ℕ) → IsKnown start seen n → IsIn n waiting ⊎ (IsIn n looked ⊎ IsPassed rows start seen n)
