-- Simple nodes. Made by tools/nodes.py from gosyntax.grammar: edit that.
use Rattle.std.specs.Prelude.{◌≡◌, ℕ, ◌<◌, List, length}
use Rattle.gv_gosyntax.specs.declared.generated.gosyntax_acts.Part.TheVariants.{Call as PCall, Expr as PExpr, Exprs as PExprs, Right as PRight, Simple as PSimple}
use Rattle.gv_gosyntax.specs.declared.tree.Call.{Call}
use Rattle.gv_gosyntax.specs.declared.tree.Expr.{Expr}
use Rattle.gv_gosyntax.specs.declared.lexeme.Lexeme.{Lexeme}
use Rattle.gv_gosyntax.specs.declared.tree.Right.{Right}
use Rattle.gv_gosyntax.specs.declared.tree.Simple.{Simple}
use Rattle.gv_gosyntax.specs.declared.node.Node.{Node}
use Rattle.gv_gosyntax.specs.declared.tree.Simple.TheVariants as simple
use Rattle.gv_gosyntax.specs.Nodes.{IsPartAt}
use Rattle.gv_gonodes.specs.Places.{IsBefore}
use Rattle.gv_gonodes.specs.declared.generated.simple_node.SimpleNode.{SimpleNode}
use Rattle.gv_gonodes.specs.declared.generated.simple_node.SimpleNode.TheVariants as node

-- a part of the kind stands there
pub record IsSomeSimple (nodes : List Node) (at : ℕ) : Type 0 where
  pub whole : Simple
  pub within : at < length nodes
  pub part : IsPartAt nodes at (PSimple whole)

pub record IsAssign (nodes : List Node) (limit : ℕ) (lefts : ℕ) (sign : Lexeme) (right : ℕ) (whole : Simple) : Type 0 where
  pub of_lefts : List Expr
  pub of_right : Right
  pub at_lefts : IsBefore nodes limit lefts (PExprs of_lefts)
  pub at_right : IsBefore nodes limit right (PRight of_right)
  pub made : whole ≡ (simple.Assign of_lefts sign of_right)

pub record IsCount (nodes : List Node) (limit : ℕ) (name : ℕ) (sign : Lexeme) (whole : Simple) : Type 0 where
  pub of_name : Expr
  pub at_name : IsBefore nodes limit name (PExpr of_name)
  pub made : whole ≡ (simple.Count of_name sign)

pub record IsUpdate (nodes : List Node) (limit : ℕ) (name : ℕ) (sign : Lexeme) (value : ℕ) (whole : Simple) : Type 0 where
  pub of_name : Expr
  pub of_value : Expr
  pub at_name : IsBefore nodes limit name (PExpr of_name)
  pub at_value : IsBefore nodes limit value (PExpr of_value)
  pub made : whole ≡ (simple.Update of_name sign of_value)

pub record IsDo (nodes : List Node) (limit : ℕ) (done : ℕ) (whole : Simple) : Type 0 where
  pub of_done : Call
  pub at_done : IsBefore nodes limit done (PCall of_done)
  pub made : whole ≡ (simple.Call of_done)

-- what is told of a node before `limit` is so of this part
abbrev pub IsSimpleNode : List Node → ℕ → SimpleNode → Simple → Type 0
IsSimpleNode nodes limit (node.Assign lefts sign right) whole = IsAssign nodes limit lefts sign right whole
IsSimpleNode nodes limit (node.Count name sign) whole = IsCount nodes limit name sign whole
IsSimpleNode nodes limit (node.Update name sign value) whole = IsUpdate nodes limit name sign value whole
IsSimpleNode nodes limit (node.Do done) whole = IsDo nodes limit done whole
