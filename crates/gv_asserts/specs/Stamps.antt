-- Atoms in order with their stamps.
use Rattle.std.specs.Prelude.{ℕ, suc, ◌+◌, ◌<◌, ◌≤◌, List, [], ◌∷◌, ◌++◌, length, nat_lt, if◌then◌else◌}
use Rattle.gv_terms.specs.declared.term.Term.{Term}
use Rattle.gv_commands.specs.declared.atom.Atom.{Atom}
use Rattle.gv_asserts.specs.declared.stamped.Stamped.{Stamped}

pub record Stamps : Type 0 where
  pub items : List Stamped
  -- the last stamp that was given; 0 where none was
  pub last : ℕ

-- a stamp is a number of 32 bits
abbrev pub greatest : ℕ
greatest = 4294967295

-- stamps ascend between two numbers, of which the second may be one
abbrev pub Ascend : (low high : ℕ) → List Stamped → Type 0
Ascend low high [] = low ≤ high
Ascend low high (s ∷ items) = (low < s.stamp) × Ascend s.stamp high items

abbrev pub AreStamped : Stamps → Type 0
AreStamped s = Ascend 0 s.last s.items × (s.last ≤ greatest)

abbrev pub numbered : ℕ → List Stamped → List Stamped
numbered n [] = []
numbered n (s ∷ items) = record s { stamp = n } ∷ numbered (suc n) items

-- the same atoms in the same order, numbered from 1
abbrev pub renumbered : Stamps → Stamps
renumbered s = record { items = numbered 1 s.items; last = length s.items }

-- there is a stamp to give
abbrev pub with_room : Stamps → Stamps
with_room s = if nat_lt s.last greatest then s else renumbered s

abbrev pub with_last : Stamps → Atom Term → Stamps
with_last s a = record { items = s.items ++ (record { stamp = s.last + 1; atom = a }) ∷ []; last = s.last + 1 }

-- an atom more, which has the next stamp and comes last
abbrev pub pushed : Stamps → Atom Term → Stamps
pushed s a = with_last (with_room s) a
