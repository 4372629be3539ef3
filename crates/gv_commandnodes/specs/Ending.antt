-- Ending nodes. Made by tools/script_nodes.py from script.grammar: edit that.
use Rattle.std.specs.Prelude.{◌≡◌, ℕ, ◌<◌, List, length, Some, None, Option}
use Rattle.gv_termread.specs.declared.generated.term_acts.Part.TheVariants.{Other as POther}
use Rattle.gv_scriptsyntax.specs.declared.generated.script_acts.ScriptPart.TheVariants.{Ending as PEnding}
use Rattle.gv_termread.specs.declared.token.SeenToken.{SeenToken}
use Rattle.gv_scriptsyntax.specs.declared.node.Node.{Node}
use Rattle.gv_scriptsyntax.specs.Nodes.{IsPartAt}
use Rattle.gv_commandnodes.specs.declared.generated.ending_node.EndingNode.{EndingNode}
use Rattle.gv_commandnodes.specs.declared.generated.ending_node.EndingNode.TheVariants as node

-- a part of the kind stands there
pub record IsSomeEnding (text : List ℕ) (nodes : List Node) (at : ℕ) : Type 0 where
  pub whole : Option SeenToken
  pub within : at < length nodes
  pub part : IsPartAt text nodes at (POther (PEnding whole))

-- what is told of a node before `limit` is so of this part
abbrev pub IsEndingNode : List ℕ → List Node → ℕ → EndingNode → Option SeenToken → Type 0
IsEndingNode text nodes limit (node.Closed semi) whole = whole ≡ (Some semi)
IsEndingNode text nodes limit node.NotClosed whole = whole ≡ None
