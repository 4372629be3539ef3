-- What is found in a package. Types, and what an operand is, are those of gv_operands.
use Rattle.std.specs.Prelude.{ℕ, Bool, true, false, List, [], ◌∷◌}
use Rattle.gv_base.specs.declared.answers.Code.{Code}

-- ---- what is found

-- Faults, at a byte of the text; and of variables, each known by where its name is declared: that a literal behind `go` uses an outer one, at
-- a byte of the text, and that one is assigned after its declaration.
pub data Finding : Type 0 where
  Fault : ℕ → Code → Finding
  Outer : ℕ → ℕ → Finding
  Assigned : ℕ → Finding

-- one fault unless something holds
abbrev pub unless : Bool → ℕ → Code → List Finding
unless true at code = []
unless false at code = Fault at code ∷ []
