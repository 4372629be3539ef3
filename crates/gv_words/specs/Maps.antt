-- Finite maps from words, as their entries with ascending keys.
use Rattle.std.specs.Prelude.{ℕ, List, [], ◌∷◌, ◌++◌, Bool, true, not, ◌&&◌, Option, nat_eq, nat_lt, find, option_map}
use Rattle.std.specs.List.{list_all, filter}

-- what the map holds under a key
abbrev pub entry_at : {V : Type 0} → List (ℕ × V) → ℕ → Option V
entry_at m k = option_map (λ e. e.1) (find (λ e. nat_eq e.0 k) m)

-- the map with v under k: the entries below, the new one, and the entries above
abbrev pub with_entry : {V : Type 0} → List (ℕ × V) → ℕ → V → List (ℕ × V)
with_entry m k v = filter (λ e. nat_lt e.0 k) m ++ ((k, v) ∷ filter (λ e. nat_lt k e.0) m)

-- the map without the key
abbrev pub without : {V : Type 0} → List (ℕ × V) → ℕ → List (ℕ × V)
without m k = filter (λ e. not (nat_eq e.0 k)) m

-- whether each key is below every later one
abbrev pub ascends : {V : Type 0} → List (ℕ × V) → Bool
ascends [] = true
ascends (e ∷ es) = list_all (λ d. nat_lt e.0 d.0) es && ascends es
