-- What is so of a search, depth first.
use Rattle.std.specs.Prelude.{◌≡◌, ℕ, suc, ◌+◌, ◌⊎◌, ◌<◌, ◌≤◌, Bool, true, false, not, List, [], ◌∷◌, length, take, reverse, slice_index_or}
use Rattle.gv_cycles.specs.Leading.{IsIn, row}
use Rattle.gv_cycles.specs.Order.{IsBefore}
use Rattle.gv_cycles.specs.declared.search.Open.{Open}
use Rattle.gv_cycles.specs.declared.search.Search.{Search}

-- it has a row, and wasn't seen
abbrev pub is_new_in : List Bool → ℕ → Bool
is_new_in seen n = not (slice_index_or seen n true)

-- nothing in this part of a row is new
abbrev pub IsPassed : List Bool → List ℕ → ℕ → ℕ → Type 0
IsPassed seen names from to = (i d : ℕ) → from ≤ i → i < to → is_new_in seen (slice_index_or names i d) ≡ false

abbrev pub seen_count : List Bool → ℕ
seen_count [] = 0
seen_count (true ∷ bs) = suc (seen_count bs)
seen_count (false ∷ bs) = seen_count bs

-- ---- numbers that are open, the last one first

abbrev pub IsOpen : ℕ → List Open → Type 0
IsOpen n [] = ⊥
IsOpen n (o ∷ os) = (o.number ≡ n) ⊎ IsOpen n os

-- the row of one is gone through up to a place
pub record IsGoneThrough (rows : List (List ℕ)) (order : List ℕ) (o : Open) : Type 0 where
  pub ranged : o.number < length rows
  pub passed : (i d : ℕ) → i < o.next → IsBefore rows order o.number (slice_index_or (row rows o.number) i d)

-- the one that was opened before names it
abbrev pub IsNamedLast : List (List ℕ) → ℕ → List Open → Type 0
IsNamedLast rows n [] = Unit {0}
IsNamedLast rows n (o ∷ os) = IsIn n (row rows o.number)

abbrev pub AreOpen : List (List ℕ) → List ℕ → List Open → Type 0
AreOpen rows order [] = Unit {0}
AreOpen rows order (o ∷ os) = IsGoneThrough rows order o × (IsNamedLast rows o.number os × AreOpen rows order os)

-- ---- the whole

pub record IsSearchedBy (rows : List (List ℕ)) (seen : List Bool) (open_ones : List Open) (order : List ℕ) : Type 0 where
  pub sized : length seen ≡ length rows
  pub counted : seen_count seen ≡ length open_ones + length order
  pub kept : (n : ℕ) → n < length seen → slice_index_or seen n true ≡ true → IsIn n order ⊎ IsOpen n open_ones
  pub gone : AreOpen rows order open_ones
  pub behind : (i d named : ℕ) → i < length order → IsIn named (row rows (slice_index_or order i d)) → IsBefore rows (take i order) (slice_index_or order i d) named
  pub ranged : (i d : ℕ) → i < length order → slice_index_or order i d < length rows

abbrev pub IsSearched : List (List ℕ) → Search → Type 0
IsSearched rows s = IsSearchedBy rows s.is_seen.items (reverse s.path.items) s.order.items

-- what was seen is seen
abbrev pub IsMoreSeen : List Bool → List Bool → Type 0
IsMoreSeen seen more = (length seen ≡ length more) × ((n : ℕ) → slice_index_or seen n true ≡ true → slice_index_or more n true ≡ true)
