-- Bound nodes. Made by tools/nodes.py from gosyntax.grammar: edit that.
use Rattle.std.specs.Prelude.{◌≡◌, ℕ, ◌<◌, List, length, Some, None, Option}
use Rattle.gv_gosyntax.specs.declared.generated.gosyntax_acts.Part.TheVariants.{Bound as PBound, Expr as PExpr}
use Rattle.gv_gosyntax.specs.declared.tree.Expr.{Expr}
use Rattle.gv_gosyntax.specs.declared.node.Node.{Node}
use Rattle.gv_gosyntax.specs.Nodes.{IsPartAt}
use Rattle.gv_gonodes.specs.Places.{IsBefore}
use Rattle.gv_gonodes.specs.declared.generated.bound_node.BoundNode.{BoundNode}
use Rattle.gv_gonodes.specs.declared.generated.bound_node.BoundNode.TheVariants as node

-- a part of the kind stands there
pub record IsSomeBound (nodes : List Node) (at : ℕ) : Type 0 where
  pub whole : Option Expr
  pub within : at < length nodes
  pub part : IsPartAt nodes at (PBound whole)

pub record IsBound (nodes : List Node) (limit : ℕ) (inner : ℕ) (whole : Option Expr) : Type 0 where
  pub of_inner : Expr
  pub at_inner : IsBefore nodes limit inner (PExpr of_inner)
  pub made : whole ≡ (Some of_inner)

-- what is told of a node before `limit` is so of this part
abbrev pub IsBoundNode : List Node → ℕ → BoundNode → Option Expr → Type 0
IsBoundNode nodes limit node.NoBound whole = whole ≡ None
IsBoundNode nodes limit (node.Bound inner) whole = IsBound nodes limit inner whole
