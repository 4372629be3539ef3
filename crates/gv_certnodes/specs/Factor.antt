-- Factor nodes. Made by tools/script_nodes.py from script.grammar: edit that.
use Rattle.std.specs.Prelude.{◌≡◌, ℕ, ◌<◌, List, length, Some, None}
use Rattle.gv_termread.specs.declared.generated.term_acts.Part.TheVariants.{Term as PTerm, Other as POther}
use Rattle.gv_scriptsyntax.specs.declared.generated.script_acts.ScriptPart.TheVariants.{Factor as PFactor}
use Rattle.gv_scriptsyntax.specs.declared.tree.Factor.{Factor}
use Rattle.gv_termread.specs.declared.placed.PlacedTerm.{PlacedTerm}
use Rattle.gv_termread.specs.declared.token.SeenToken.{SeenToken}
use Rattle.gv_scriptsyntax.specs.declared.node.Node.{Node}
use Rattle.gv_scriptsyntax.specs.Nodes.{IsPartAt}
use Rattle.gv_certnodes.specs.Places.{IsBefore}
use Rattle.gv_certnodes.specs.declared.generated.factor_node.FactorNode.{FactorNode}
use Rattle.gv_certnodes.specs.declared.generated.factor_node.FactorNode.TheVariants as node

-- a part of the kind stands there
pub record IsSomeFactor (text : List ℕ) (nodes : List Node) (at : ℕ) : Type 0 where
  pub whole : Factor
  pub within : at < length nodes
  pub part : IsPartAt text nodes at (POther (PFactor whole))

pub record IsPositive (text : List ℕ) (nodes : List Node) (limit : ℕ) (number : SeenToken) (term : ℕ) (whole : Factor) : Type 0 where
  pub of_term : PlacedTerm
  pub at_term : IsBefore text nodes limit term (PTerm of_term)
  pub made : whole ≡ (record { minus = None; number = number; term = of_term })

pub record IsNegative (text : List ℕ) (nodes : List Node) (limit : ℕ) (minus : SeenToken) (number : SeenToken) (term : ℕ) (whole : Factor) : Type 0 where
  pub of_term : PlacedTerm
  pub at_term : IsBefore text nodes limit term (PTerm of_term)
  pub made : whole ≡ (record { minus = Some minus; number = number; term = of_term })

-- what is told of a node before `limit` is so of this part
abbrev pub IsFactorNode : List ℕ → List Node → ℕ → FactorNode → Factor → Type 0
IsFactorNode text nodes limit (node.Positive number term) whole = IsPositive text nodes limit number term whole
IsFactorNode text nodes limit (node.Negative minus number term) whole = IsNegative text nodes limit minus number term whole
