-- Nodes and the parts that an act makes them of.
use Rattle.std.specs.Prelude.{◌≡◌, ℕ, ◌+◌, ◌-◌, ◌<◌, List, ◌∷◌, Some, slice_get, take, drop}
use Rattle.gv_grammar.specs.declared.levels.TheConstants.{FIRST_ACT}
use Rattle.gv_gosyntax.specs.declared.generated.gosyntax_acts.Part.{Part}
use Rattle.gv_gosyntax.specs.declared.generated.gosyntax_acts.Part.TheVariants.{Token as PToken}
use Rattle.gv_gosyntax.specs.declared.lexeme.Lexeme.{Lexeme}
use Rattle.gv_gosyntax.specs.declared.node.Node.{Node}
use Rattle.gv_gosyntax.specs.declared.node.Node.TheVariants.{Made}
use Rattle.gv_gosyntax.specs.Nodes.{built, IsPartAt}

-- An act makes the node at a place; the marks, whose numbers are lower, do what the first act does.
pub record IsMadeBy (nodes : List Node) (at act : ℕ) : Type 0 where
  pub raw : ℕ
  pub from : ℕ
  pub node : slice_get nodes at ≡ Some (Made raw from)
  pub number : raw - FIRST_ACT ≡ act - FIRST_ACT

-- some act does
pub record IsMade (nodes : List Node) (at : ℕ) : Type 0 where
  pub act : ℕ
  pub from : ℕ
  pub node : slice_get nodes at ≡ Some (Made act from)

-- The node at a place is the part of another one behind which so many of its parts come.
pub record IsPartOf (nodes : List Node) (at number place : ℕ) : Type 0 where
  pub before : place < at
  pub part : (parts : List Part) → built (take at nodes) ≡ Some parts → built (take (place + 1) nodes) ≡ Some (drop number parts)

-- That part is a token.
pub record IsTokenOf (nodes : List Node) (at number : ℕ) (token : Lexeme) : Type 0 where
  pub same : (parts rest : List Part) (t : Lexeme) → built (take at nodes) ≡ Some parts → drop number parts ≡ PToken t ∷ rest → token ≡ t

-- The node at a place is this part, and it stands before `end`.
pub record IsBefore (nodes : List Node) (end at : ℕ) (part : Part) : Type 0 where
  pub before : at < end
  pub is : IsPartAt nodes at part
