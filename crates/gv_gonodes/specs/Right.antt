-- Right nodes. Made by tools/nodes.py from gosyntax.grammar: edit that.
use Rattle.std.specs.Prelude.{◌≡◌, ℕ, ◌<◌, List, length}
use Rattle.gv_gosyntax.specs.declared.generated.gosyntax_acts.Part.TheVariants.{Call as PCall, Expr as PExpr, Right as PRight}
use Rattle.gv_gosyntax.specs.declared.tree.Call.{Call}
use Rattle.gv_gosyntax.specs.declared.tree.Expr.{Expr}
use Rattle.gv_gosyntax.specs.declared.tree.Right.{Right}
use Rattle.gv_gosyntax.specs.declared.node.Node.{Node}
use Rattle.gv_gosyntax.specs.declared.tree.Right.TheVariants as right
use Rattle.gv_gosyntax.specs.Nodes.{IsPartAt}
use Rattle.gv_gonodes.specs.Places.{IsBefore}
use Rattle.gv_gonodes.specs.declared.generated.right_node.RightNode.{RightNode}
use Rattle.gv_gonodes.specs.declared.generated.right_node.RightNode.TheVariants as node

-- a part of the kind stands there
pub record IsSomeRight (nodes : List Node) (at : ℕ) : Type 0 where
  pub whole : Right
  pub within : at < length nodes
  pub part : IsPartAt nodes at (PRight whole)

pub record IsValue (nodes : List Node) (limit : ℕ) (value : ℕ) (whole : Right) : Type 0 where
  pub of_value : Expr
  pub at_value : IsBefore nodes limit value (PExpr of_value)
  pub made : whole ≡ (right.Value of_value)

pub record IsResult (nodes : List Node) (limit : ℕ) (result : ℕ) (whole : Right) : Type 0 where
  pub of_result : Call
  pub at_result : IsBefore nodes limit result (PCall of_result)
  pub made : whole ≡ (right.Result of_result)

-- what is told of a node before `limit` is so of this part
abbrev pub IsRightNode : List Node → ℕ → RightNode → Right → Type 0
IsRightNode nodes limit (node.Value value) whole = IsValue nodes limit value whole
IsRightNode nodes limit (node.Result result) whole = IsResult nodes limit result whole
