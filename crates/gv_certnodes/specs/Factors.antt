-- Factors nodes. Made by tools/script_nodes.py from script.grammar: edit that.
use Rattle.std.specs.Prelude.{◌≡◌, ℕ, ◌<◌, List, length, [], ◌∷◌, ◌++◌}
use Rattle.gv_termread.specs.declared.generated.term_acts.Part.TheVariants.{Other as POther}
use Rattle.gv_scriptsyntax.specs.declared.generated.script_acts.ScriptPart.TheVariants.{Factor as PFactor, Factors as PFactors}
use Rattle.gv_scriptsyntax.specs.declared.tree.Factor.{Factor}
use Rattle.gv_scriptsyntax.specs.declared.node.Node.{Node}
use Rattle.gv_scriptsyntax.specs.Nodes.{IsPartAt}
use Rattle.gv_certnodes.specs.Places.{IsBefore}
use Rattle.gv_certnodes.specs.declared.generated.factors_node.FactorsNode.{FactorsNode}
use Rattle.gv_certnodes.specs.declared.generated.factors_node.FactorsNode.TheVariants as node

-- a part of the kind stands there
pub record IsSomeFactors (text : List ℕ) (nodes : List Node) (at : ℕ) : Type 0 where
  pub whole : List Factor
  pub within : at < length nodes
  pub part : IsPartAt text nodes at (POther (PFactors whole))

pub record IsFactor (text : List ℕ) (nodes : List Node) (limit : ℕ) (factors : ℕ) (factor : ℕ) (whole : List Factor) : Type 0 where
  pub of_factors : List Factor
  pub of_factor : Factor
  pub at_factors : IsBefore text nodes limit factors (POther (PFactors of_factors))
  pub at_factor : IsBefore text nodes limit factor (POther (PFactor of_factor))
  pub made : whole ≡ (of_factors ++ of_factor ∷ [])

pub record IsNextFactor (text : List ℕ) (nodes : List Node) (limit : ℕ) (factors : ℕ) (factor : ℕ) (whole : List Factor) : Type 0 where
  pub of_factors : List Factor
  pub of_factor : Factor
  pub at_factors : IsBefore text nodes limit factors (POther (PFactors of_factors))
  pub at_factor : IsBefore text nodes limit factor (POther (PFactor of_factor))
  pub made : whole ≡ (of_factors ++ of_factor ∷ [])

-- what is told of a node before `limit` is so of this part
abbrev pub IsFactorsNode : List ℕ → List Node → ℕ → FactorsNode → List Factor → Type 0
IsFactorsNode text nodes limit node.NoFactors whole = whole ≡ []
IsFactorsNode text nodes limit (node.Factor factors factor) whole = IsFactor text nodes limit factors factor whole
IsFactorsNode text nodes limit (node.NextFactor factors factor) whole = IsNextFactor text nodes limit factors factor whole
