-- What an explanation is made of: the entries of a history, and beside them the acts of its calls.
use Rattle.std.specs.Prelude.{ℕ, List, [], ◌∷◌, Option, Some, None}
use Rattle.gv_spec.specs.Entry as entry
use Rattle.gv_spec.specs.Entry.{Entry}

pub data Move (V : Type 0) : Type 0 where
  -- the call under this number acts under these choices: its operation happens, all at once
  Act : ℕ → List ℕ → Move V
  -- recovery returns, and the crash that it ends has made these choices
  Boot : List ℕ → Move V
  -- an entry of the history; a boot has made no choices
  Other : Entry V → Move V

-- the entry of a history that a move shows: none for an act, and of a boot not its choices
abbrev pub shown : {V : Type 0} → Move V → Option (Entry V)
shown (Act n choices) = None
shown (Boot choices) = Some entry.Boot
shown (Other e) = Some e

-- the entries that moves show, in order
abbrev pub entries_of : {V : Type 0} → List (Move V) → List (Entry V)
entries_of [] = []
entries_of (Act n choices ∷ moves) = entries_of moves
entries_of (Boot choices ∷ moves) = entry.Boot ∷ entries_of moves
entries_of (Other e ∷ moves) = e ∷ entries_of moves
