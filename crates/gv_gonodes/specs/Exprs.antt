-- Exprs nodes. Made by tools/nodes.py from gosyntax.grammar: edit that.
use Rattle.std.specs.Prelude.{◌≡◌, ℕ, ◌<◌, List, length, [], ◌∷◌, ◌++◌}
use Rattle.gv_gosyntax.specs.declared.generated.gosyntax_acts.Part.TheVariants.{Expr as PExpr, Exprs as PExprs}
use Rattle.gv_gosyntax.specs.declared.tree.Expr.{Expr}
use Rattle.gv_gosyntax.specs.declared.node.Node.{Node}
use Rattle.gv_gosyntax.specs.Nodes.{IsPartAt}
use Rattle.gv_gonodes.specs.Places.{IsBefore}
use Rattle.gv_gonodes.specs.declared.generated.exprs_node.ExprsNode.{ExprsNode}
use Rattle.gv_gonodes.specs.declared.generated.exprs_node.ExprsNode.TheVariants as node

-- a part of the kind stands there
pub record IsSomeExprs (nodes : List Node) (at : ℕ) : Type 0 where
  pub whole : List Expr
  pub within : at < length nodes
  pub part : IsPartAt nodes at (PExprs whole)

pub record IsExpr (nodes : List Node) (limit : ℕ) (exprs : ℕ) (last : ℕ) (whole : List Expr) : Type 0 where
  pub of_exprs : List Expr
  pub of_last : Expr
  pub at_exprs : IsBefore nodes limit exprs (PExprs of_exprs)
  pub at_last : IsBefore nodes limit last (PExpr of_last)
  pub made : whole ≡ (of_exprs ++ of_last ∷ [])

pub record IsPastExprs (nodes : List Node) (limit : ℕ) (exprs : ℕ) (whole : List Expr) : Type 0 where
  pub of_exprs : List Expr
  pub at_exprs : IsBefore nodes limit exprs (PExprs of_exprs)
  pub made : whole ≡ of_exprs

pub record IsLeft (nodes : List Node) (limit : ℕ) (left : ℕ) (whole : List Expr) : Type 0 where
  pub of_left : Expr
  pub at_left : IsBefore nodes limit left (PExpr of_left)
  pub made : whole ≡ (of_left ∷ [])

-- what is told of a node before `limit` is so of this part
abbrev pub IsExprsNode : List Node → ℕ → ExprsNode → List Expr → Type 0
IsExprsNode nodes limit node.NoExprs whole = whole ≡ []
IsExprsNode nodes limit (node.Expr exprs last) whole = IsExpr nodes limit exprs last whole
IsExprsNode nodes limit (node.PastExprs exprs) whole = IsPastExprs nodes limit exprs whole
IsExprsNode nodes limit (node.Left left) whole = IsLeft nodes limit left whole
