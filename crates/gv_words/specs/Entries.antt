-- Where the entry with a key stands among entries with ascending keys.
use Rattle.std.specs.Prelude.{◌≡◌, ℕ, suc, ◌<◌, ◌≤◌, List, length, take, drop, slice_index_or}
use Rattle.std.specs.List.{All}

-- the entry at a place has the key; those before it are below, and those behind it above
abbrev pub HoldsAt : {V : Type 0} → List (ℕ × V) → ℕ → ℕ → Type 0
HoldsAt {V} m k i = (i < length m) × All (λ e. e.0 < k) (take i m) × ((d : ℕ × V) → (slice_index_or m i d).0 ≡ k) × All (λ e. k < e.0) (drop (suc i) m)

-- no entry has the key, and one with it fits in at a place
abbrev pub FitsAt : {V : Type 0} → List (ℕ × V) → ℕ → ℕ → Type 0
FitsAt m k i = (i ≤ length m) × All (λ e. e.0 < k) (take i m) × All (λ e. k < e.0) (drop i m)
