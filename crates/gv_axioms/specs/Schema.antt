-- Axioms as schemata: what their parts have to be, and formulas over them.
use Rattle.std.specs.Prelude.{ℕ, List, Option, Some, None}
use Rattle.gv_terms.specs.declared.operator.Operator.{Operator}
use Rattle.gv_axioms.specs.declared.kind.Kind.{Kind}

-- a term with places for the parts of an axiom, which count from 0: the part itself, or of a maker there how many copies it
-- makes, as a number, and what it copies, or the zero of what the list or map there holds
pub data Pattern : Type 0 where
  part : ℕ → Pattern
  literal : ℕ → Pattern
  copied : ℕ → Pattern
  zero : ℕ → Pattern
  over0 : Operator → Pattern
  over1 : Operator → Pattern → Pattern
  over2 : Operator → Pattern → Pattern → Pattern
  over3 : Operator → Pattern → Pattern → Pattern → Pattern

-- a premise, which is asked for always, or only where the part at a place is of sort Bytes
pub record Premise : Type 0 where
  pub bytes : Option ℕ
  pub formula : Pattern

abbrev pub always : Pattern → Premise
always p = record { bytes = None; formula = p }

abbrev pub for_bytes : ℕ → Pattern → Premise
for_bytes i p = record { bytes = Some i; formula = p }

-- what the parts have to be, what is asked, and what is given
pub record Axiom : Type 0 where
  pub kinds : List Kind
  pub premises : List Premise
  pub conclusion : Pattern
