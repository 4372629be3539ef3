-- Inst nodes. Made by tools/script_nodes.py from script.grammar: edit that.
use Rattle.std.specs.Prelude.{◌≡◌, ℕ, ◌<◌, List, length}
use Rattle.gv_termread.specs.declared.generated.term_acts.Part.TheVariants.{Other as POther}
use Rattle.gv_scriptsyntax.specs.declared.generated.script_acts.ScriptPart.TheVariants.{Inst as PInst, Terms as PTerms}
use Rattle.gv_scriptsyntax.specs.declared.tree.Inst.{Inst}
use Rattle.gv_termread.specs.declared.placed.PlacedTerm.{PlacedTerm}
use Rattle.gv_termread.specs.declared.token.SeenToken.{SeenToken}
use Rattle.gv_scriptsyntax.specs.declared.node.Node.{Node}
use Rattle.gv_scriptsyntax.specs.Nodes.{IsPartAt}
use Rattle.gv_certnodes.specs.Places.{IsBefore}
use Rattle.gv_commandnodes.specs.declared.generated.inst_node.InstNode.{InstNode}
use Rattle.gv_commandnodes.specs.declared.generated.inst_node.InstNode.TheVariants as node

-- a part of the kind stands there
pub record IsSomeInst (text : List ℕ) (nodes : List Node) (at : ℕ) : Type 0 where
  pub whole : Inst
  pub within : at < length nodes
  pub part : IsPartAt text nodes at (POther (PInst whole))

pub record IsInst (text : List ℕ) (nodes : List Node) (limit : ℕ) (name : SeenToken) (terms : ℕ) (whole : Inst) : Type 0 where
  pub of_terms : List PlacedTerm
  pub at_terms : IsBefore text nodes limit terms (POther (PTerms of_terms))
  pub made : whole ≡ (record { name = name; terms = of_terms })

-- what is told of a node before `limit` is so of this part
abbrev pub IsInstNode : List ℕ → List Node → ℕ → InstNode → Inst → Type 0
IsInstNode text nodes limit (node.Inst name terms) whole = IsInst text nodes limit name terms whole
