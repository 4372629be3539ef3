-- Expr nodes. Made by tools/nodes.py from gosyntax.grammar: edit that.
use Rattle.std.specs.Prelude.{◌≡◌, ℕ, ◌<◌, List, length, Some, None, Option}
use Rattle.gv_gosyntax.specs.declared.generated.gosyntax_acts.Part.TheVariants.{Bound as PBound, Expr as PExpr}
use Rattle.gv_gosyntax.specs.declared.tree.Expr.{Expr}
use Rattle.gv_gosyntax.specs.declared.lexeme.Lexeme.{Lexeme}
use Rattle.gv_gosyntax.specs.declared.node.Node.{Node}
use Rattle.gv_gosyntax.specs.declared.tree.Expr.TheVariants as expr
use Rattle.gv_gosyntax.specs.Nodes.{IsPartAt}
use Rattle.gv_gonodes.specs.Places.{IsBefore}
use Rattle.gv_gonodes.specs.declared.generated.expr_node.ExprNode.{ExprNode}
use Rattle.gv_gonodes.specs.declared.generated.expr_node.ExprNode.TheVariants as node

-- a part of the kind stands there
pub record IsSomeExpr (nodes : List Node) (at : ℕ) : Type 0 where
  pub whole : Expr
  pub within : at < length nodes
  pub part : IsPartAt nodes at (PExpr whole)

pub record IsParen (nodes : List Node) (limit : ℕ) (start : Lexeme) (inner : ℕ) (whole : Expr) : Type 0 where
  pub of_inner : Expr
  pub at_inner : IsBefore nodes limit inner (PExpr of_inner)
  pub made : whole ≡ (expr.Paren start of_inner)

pub record IsConvert (nodes : List Node) (limit : ℕ) (word : Lexeme) (inner : ℕ) (whole : Expr) : Type 0 where
  pub of_inner : Expr
  pub at_inner : IsBefore nodes limit inner (PExpr of_inner)
  pub made : whole ≡ (expr.Convert word of_inner)

pub record IsSelect (nodes : List Node) (limit : ℕ) (inner : ℕ) (name : Lexeme) (whole : Expr) : Type 0 where
  pub of_inner : Expr
  pub at_inner : IsBefore nodes limit inner (PExpr of_inner)
  pub made : whole ≡ (expr.Select of_inner name)

pub record IsIndex (nodes : List Node) (limit : ℕ) (inner : ℕ) (index : ℕ) (whole : Expr) : Type 0 where
  pub of_inner : Expr
  pub of_index : Expr
  pub at_inner : IsBefore nodes limit inner (PExpr of_inner)
  pub at_index : IsBefore nodes limit index (PExpr of_index)
  pub made : whole ≡ (expr.Index of_inner of_index)

pub record IsSliceTo (nodes : List Node) (limit : ℕ) (inner : ℕ) (high : ℕ) (whole : Expr) : Type 0 where
  pub of_inner : Expr
  pub of_high : Option Expr
  pub at_inner : IsBefore nodes limit inner (PExpr of_inner)
  pub at_high : IsBefore nodes limit high (PBound of_high)
  pub made : whole ≡ (expr.Slice of_inner None of_high)

pub record IsSliceFrom (nodes : List Node) (limit : ℕ) (inner : ℕ) (low : ℕ) (high : ℕ) (whole : Expr) : Type 0 where
  pub of_inner : Expr
  pub of_low : Expr
  pub of_high : Option Expr
  pub at_inner : IsBefore nodes limit inner (PExpr of_inner)
  pub at_low : IsBefore nodes limit low (PExpr of_low)
  pub at_high : IsBefore nodes limit high (PBound of_high)
  pub made : whole ≡ (expr.Slice of_inner (Some of_low) of_high)

pub record IsUnary (nodes : List Node) (limit : ℕ) (sign : Lexeme) (inner : ℕ) (whole : Expr) : Type 0 where
  pub of_inner : Expr
  pub at_inner : IsBefore nodes limit inner (PExpr of_inner)
  pub made : whole ≡ (expr.Unary sign of_inner)

pub record IsBinary (nodes : List Node) (limit : ℕ) (left : ℕ) (sign : Lexeme) (right : ℕ) (whole : Expr) : Type 0 where
  pub of_left : Expr
  pub of_right : Expr
  pub at_left : IsBefore nodes limit left (PExpr of_left)
  pub at_right : IsBefore nodes limit right (PExpr of_right)
  pub made : whole ≡ (expr.Binary of_left sign of_right)

-- what is told of a node before `limit` is so of this part
abbrev pub IsExprNode : List Node → ℕ → ExprNode → Expr → Type 0
IsExprNode nodes limit (node.Constant token) whole = whole ≡ (expr.Constant token)
IsExprNode nodes limit (node.Operand name) whole = whole ≡ (expr.Name name)
IsExprNode nodes limit (node.Paren start inner) whole = IsParen nodes limit start inner whole
IsExprNode nodes limit (node.Convert word inner) whole = IsConvert nodes limit word inner whole
IsExprNode nodes limit (node.Select inner name) whole = IsSelect nodes limit inner name whole
IsExprNode nodes limit (node.Index inner index) whole = IsIndex nodes limit inner index whole
IsExprNode nodes limit (node.SliceTo inner high) whole = IsSliceTo nodes limit inner high whole
IsExprNode nodes limit (node.SliceFrom inner low high) whole = IsSliceFrom nodes limit inner low high whole
IsExprNode nodes limit (node.Unary sign inner) whole = IsUnary nodes limit sign inner whole
IsExprNode nodes limit (node.Binary left sign right) whole = IsBinary nodes limit left sign right whole
