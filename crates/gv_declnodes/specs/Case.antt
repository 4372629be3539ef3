-- Case nodes. Made by tools/script_nodes.py from script.grammar: edit that.
use Rattle.std.specs.Prelude.{◌≡◌, ℕ, ◌<◌, List, length}
use Rattle.gv_termread.specs.declared.generated.term_acts.Part.TheVariants.{Other as POther}
use Rattle.gv_scriptsyntax.specs.declared.generated.script_acts.ScriptPart.TheVariants.{Case as PCase, Items as PItems, Pars as PPars}
use Rattle.gv_scriptsyntax.specs.declared.tree.Case.{Case}
use Rattle.gv_scriptsyntax.specs.declared.tree.Item.{Item}
use Rattle.gv_scriptsyntax.specs.declared.tree.Par.{Par}
use Rattle.gv_scriptsyntax.specs.declared.node.Node.{Node}
use Rattle.gv_scriptsyntax.specs.Nodes.{IsPartAt}
use Rattle.gv_certnodes.specs.Places.{IsBefore}
use Rattle.gv_declnodes.specs.declared.generated.case_node.CaseNode.{CaseNode}
use Rattle.gv_declnodes.specs.declared.generated.case_node.CaseNode.TheVariants as node

-- a part of the kind stands there
pub record IsSomeCase (text : List ℕ) (nodes : List Node) (at : ℕ) : Type 0 where
  pub whole : Case
  pub within : at < length nodes
  pub part : IsPartAt text nodes at (POther (PCase whole))

pub record IsCase (text : List ℕ) (nodes : List Node) (limit : ℕ) (vars : ℕ) (items : ℕ) (whole : Case) : Type 0 where
  pub of_vars : List Par
  pub of_items : List Item
  pub at_vars : IsBefore text nodes limit vars (POther (PPars of_vars))
  pub at_items : IsBefore text nodes limit items (POther (PItems of_items))
  pub made : whole ≡ (record { vars = of_vars; items = of_items })

-- what is told of a node before `limit` is so of this part
abbrev pub IsCaseNode : List ℕ → List Node → ℕ → CaseNode → Case → Type 0
IsCaseNode text nodes limit (node.Case vars items) whole = IsCase text nodes limit vars items whole
