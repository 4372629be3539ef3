-- Filling nodes. Made by tools/script_nodes.py from script.grammar: edit that.
use Rattle.std.specs.Prelude.{◌≡◌, ℕ, ◌<◌, List, length}
use Rattle.gv_termread.specs.declared.generated.term_acts.Part.TheVariants.{Other as POther}
use Rattle.gv_scriptsyntax.specs.declared.generated.script_acts.ScriptPart.TheVariants.{Filling as PFilling, Terms as PTerms}
use Rattle.gv_scriptsyntax.specs.declared.tree.Filling.{Filling}
use Rattle.gv_termread.specs.declared.placed.PlacedTerm.{PlacedTerm}
use Rattle.gv_scriptsyntax.specs.declared.node.Node.{Node}
use Rattle.gv_scriptsyntax.specs.declared.tree.Filling.TheVariants as filling
use Rattle.gv_scriptsyntax.specs.Nodes.{IsPartAt}
use Rattle.gv_certnodes.specs.Places.{IsBefore}
use Rattle.gv_commandnodes.specs.declared.generated.filling_node.FillingNode.{FillingNode}
use Rattle.gv_commandnodes.specs.declared.generated.filling_node.FillingNode.TheVariants as node

-- a part of the kind stands there
pub record IsSomeFilling (text : List ℕ) (nodes : List Node) (at : ℕ) : Type 0 where
  pub whole : Filling
  pub within : at < length nodes
  pub part : IsPartAt text nodes at (POther (PFilling whole))

pub record IsFilled (text : List ℕ) (nodes : List Node) (limit : ℕ) (terms : ℕ) (whole : Filling) : Type 0 where
  pub of_terms : List PlacedTerm
  pub at_terms : IsBefore text nodes limit terms (POther (PTerms of_terms))
  pub made : whole ≡ (filling.Terms of_terms)

pub record IsFilledParens (text : List ℕ) (nodes : List Node) (limit : ℕ) (terms : ℕ) (whole : Filling) : Type 0 where
  pub of_terms : List PlacedTerm
  pub at_terms : IsBefore text nodes limit terms (POther (PTerms of_terms))
  pub made : whole ≡ (filling.Terms of_terms)

-- what is told of a node before `limit` is so of this part
abbrev pub IsFillingNode : List ℕ → List Node → ℕ → FillingNode → Filling → Type 0
IsFillingNode text nodes limit (node.HoleTerms hole) whole = whole ≡ (filling.Hole hole)
IsFillingNode text nodes limit (node.Filled terms) whole = IsFilled text nodes limit terms whole
IsFillingNode text nodes limit (node.FilledParens terms) whole = IsFilledParens text nodes limit terms whole
