-- What a history tells of a run, over values V.
use Rattle.std.specs.Prelude.{ℕ, Bool, false, true, List, ◌&&◌, ◌==◌}
use lib.Pointwise.{pointwise}

pub data Entry (V : Type 0) : Type 0 where
  -- a call started: its number, its operation and its arguments
  Call : ℕ → ℕ → List V → Entry V
  -- the call under this number answered with this reply
  Answer : ℕ → V → Entry V
  Crash : Entry V
  -- the recovery returned
  Boot : Entry V

-- whether two entries are alike, where `same` says that two values are
abbrev pub same_entry : {V : Type 0} → (V → V → Bool) → Entry V → Entry V → Bool
same_entry same (Call n op args) (Call m other values) = n == m && op == other && pointwise same args values
same_entry same (Answer n reply) (Answer m value) = n == m && same reply value
same_entry same Crash Crash = true
same_entry same Boot Boot = true
same_entry same _ _ = false
