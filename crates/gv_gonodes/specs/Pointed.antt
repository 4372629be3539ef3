-- Pointed nodes. Made by tools/nodes.py from gosyntax.grammar: edit that.
use Rattle.std.specs.Prelude.{◌≡◌, ℕ, ◌<◌, List, length}
use Rattle.gv_gosyntax.specs.declared.generated.gosyntax_acts.Part.TheVariants.{Pointed as PPointed}
use Rattle.gv_gosyntax.specs.declared.tree.Pointed.{Pointed}
use Rattle.gv_gosyntax.specs.declared.node.Node.{Node}
use Rattle.gv_gosyntax.specs.declared.tree.Pointed.TheVariants as pointed
use Rattle.gv_gosyntax.specs.Nodes.{IsPartAt}
use Rattle.gv_gonodes.specs.declared.generated.pointed_node.PointedNode.{PointedNode}
use Rattle.gv_gonodes.specs.declared.generated.pointed_node.PointedNode.TheVariants as node

-- a part of the kind stands there
pub record IsSomePointed (nodes : List Node) (at : ℕ) : Type 0 where
  pub whole : Pointed
  pub within : at < length nodes
  pub part : IsPartAt nodes at (PPointed whole)

-- what is told of a node before `limit` is so of this part
abbrev pub IsPointedNode : List Node → ℕ → PointedNode → Pointed → Type 0
IsPointedNode nodes limit (node.Named name) whole = whole ≡ (pointed.Named name)
IsPointedNode nodes limit (node.Mutex word) whole = whole ≡ (pointed.Mutex word)
