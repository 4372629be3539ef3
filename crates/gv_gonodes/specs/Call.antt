-- Call nodes. Made by tools/nodes.py from gosyntax.grammar: edit that.
use Rattle.std.specs.Prelude.{◌≡◌, ℕ, ◌<◌, List, length, Some, None}
use Rattle.gv_gosyntax.specs.declared.generated.gosyntax_acts.Part.TheVariants.{Call as PCall, Expr as PExpr, Exprs as PExprs, GoType as PGoType, Keyed as PKeyed}
use Rattle.gv_gosyntax.specs.declared.tree.Call.{Call}
use Rattle.gv_gosyntax.specs.declared.tree.Expr.{Expr}
use Rattle.gv_gosyntax.specs.declared.tree.GoType.{GoType}
use Rattle.gv_gosyntax.specs.declared.tree.KeyedExpr.{KeyedExpr}
use Rattle.gv_gosyntax.specs.declared.lexeme.Lexeme.{Lexeme}
use Rattle.gv_gosyntax.specs.declared.node.Node.{Node}
use Rattle.gv_gosyntax.specs.declared.tree.Call.TheVariants as call
use Rattle.gv_gosyntax.specs.Nodes.{IsPartAt}
use Rattle.gv_gonodes.specs.Places.{IsBefore}
use Rattle.gv_gonodes.specs.declared.generated.call_node.CallNode.{CallNode}
use Rattle.gv_gonodes.specs.declared.generated.call_node.CallNode.TheVariants as node

-- a part of the kind stands there
pub record IsSomeCall (nodes : List Node) (at : ℕ) : Type 0 where
  pub whole : Call
  pub within : at < length nodes
  pub part : IsPartAt nodes at (PCall whole)

pub record IsCall (nodes : List Node) (limit : ℕ) (function : ℕ) (arguments : ℕ) (whole : Call) : Type 0 where
  pub of_function : Expr
  pub of_arguments : List Expr
  pub at_function : IsBefore nodes limit function (PExpr of_function)
  pub at_arguments : IsBefore nodes limit arguments (PExprs of_arguments)
  pub made : whole ≡ (call.Function of_function of_arguments)

pub record IsPair (nodes : List Node) (limit : ℕ) (word : Lexeme) (first : ℕ) (second : ℕ) (whole : Call) : Type 0 where
  pub of_first : Expr
  pub of_second : Expr
  pub at_first : IsBefore nodes limit first (PExpr of_first)
  pub at_second : IsBefore nodes limit second (PExpr of_second)
  pub made : whole ≡ (call.Pair word of_first of_second)

pub record IsMake (nodes : List Node) (limit : ℕ) (word : Lexeme) (kind : ℕ) (whole : Call) : Type 0 where
  pub of_kind : GoType
  pub at_kind : IsBefore nodes limit kind (PGoType of_kind)
  pub made : whole ≡ (call.Make word of_kind None)

pub record IsMakeLength (nodes : List Node) (limit : ℕ) (word : Lexeme) (kind : ℕ) (length : ℕ) (whole : Call) : Type 0 where
  pub of_kind : GoType
  pub of_length : Expr
  pub at_kind : IsBefore nodes limit kind (PGoType of_kind)
  pub at_length : IsBefore nodes limit length (PExpr of_length)
  pub made : whole ≡ (call.Make word of_kind (Some of_length))

pub record IsLiteral (nodes : List Node) (limit : ℕ) (start : Lexeme) (name : Lexeme) (fields : ℕ) (whole : Call) : Type 0 where
  pub of_fields : List KeyedExpr
  pub at_fields : IsBefore nodes limit fields (PKeyed of_fields)
  pub made : whole ≡ (call.Literal start name of_fields)

-- what is told of a node before `limit` is so of this part
abbrev pub IsCallNode : List Node → ℕ → CallNode → Call → Type 0
IsCallNode nodes limit (node.Call function arguments) whole = IsCall nodes limit function arguments whole
IsCallNode nodes limit (node.Pair word first second) whole = IsPair nodes limit word first second whole
IsCallNode nodes limit (node.Make word kind) whole = IsMake nodes limit word kind whole
IsCallNode nodes limit (node.MakeLength word kind length) whole = IsMakeLength nodes limit word kind length whole
IsCallNode nodes limit (node.New word) whole = whole ≡ (call.New word)
IsCallNode nodes limit (node.Literal start name fields) whole = IsLiteral nodes limit start name fields whole
