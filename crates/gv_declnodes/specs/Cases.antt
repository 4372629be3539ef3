-- Cases nodes. Made by tools/script_nodes.py from script.grammar: edit that.
use Rattle.std.specs.Prelude.{◌≡◌, ℕ, ◌<◌, List, length, [], ◌∷◌, ◌++◌}
use Rattle.gv_termread.specs.declared.generated.term_acts.Part.TheVariants.{Other as POther}
use Rattle.gv_scriptsyntax.specs.declared.generated.script_acts.ScriptPart.TheVariants.{Case as PCase, Cases as PCases}
use Rattle.gv_scriptsyntax.specs.declared.tree.Case.{Case}
use Rattle.gv_scriptsyntax.specs.declared.node.Node.{Node}
use Rattle.gv_scriptsyntax.specs.Nodes.{IsPartAt}
use Rattle.gv_certnodes.specs.Places.{IsBefore}
use Rattle.gv_declnodes.specs.declared.generated.cases_node.CasesNode.{CasesNode}
use Rattle.gv_declnodes.specs.declared.generated.cases_node.CasesNode.TheVariants as node

-- a part of the kind stands there
pub record IsSomeCases (text : List ℕ) (nodes : List Node) (at : ℕ) : Type 0 where
  pub whole : List Case
  pub within : at < length nodes
  pub part : IsPartAt text nodes at (POther (PCases whole))

pub record IsNextCase (text : List ℕ) (nodes : List Node) (limit : ℕ) (cases : ℕ) (next : ℕ) (whole : List Case) : Type 0 where
  pub of_cases : List Case
  pub of_next : Case
  pub at_cases : IsBefore text nodes limit cases (POther (PCases of_cases))
  pub at_next : IsBefore text nodes limit next (POther (PCase of_next))
  pub made : whole ≡ (of_cases ++ of_next ∷ [])

-- what is told of a node before `limit` is so of this part
abbrev pub IsCasesNode : List ℕ → List Node → ℕ → CasesNode → List Case → Type 0
IsCasesNode text nodes limit node.NoCases whole = whole ≡ []
IsCasesNode text nodes limit (node.NextCase cases next) whole = IsNextCase text nodes limit cases next whole
