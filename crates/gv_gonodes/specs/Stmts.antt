-- Stmts nodes. Made by tools/nodes.py from gosyntax.grammar: edit that.
use Rattle.std.specs.Prelude.{◌≡◌, ℕ, ◌<◌, List, length, [], ◌∷◌, ◌++◌}
use Rattle.gv_gosyntax.specs.declared.generated.gosyntax_acts.Part.TheVariants.{Stmt as PStmt, Stmts as PStmts}
use Rattle.gv_gosyntax.specs.declared.tree.Stmt.{Stmt}
use Rattle.gv_gosyntax.specs.declared.node.Node.{Node}
use Rattle.gv_gosyntax.specs.declared.tree.Stmt.TheVariants as stmt
use Rattle.gv_gosyntax.specs.Nodes.{IsPartAt}
use Rattle.gv_gonodes.specs.Places.{IsBefore}
use Rattle.gv_gonodes.specs.declared.generated.stmts_node.StmtsNode.{StmtsNode}
use Rattle.gv_gonodes.specs.declared.generated.stmts_node.StmtsNode.TheVariants as node

-- a part of the kind stands there
pub record IsSomeStmts (nodes : List Node) (at : ℕ) : Type 0 where
  pub whole : List Stmt
  pub within : at < length nodes
  pub part : IsPartAt nodes at (PStmts whole)

pub record IsStmt (nodes : List Node) (limit : ℕ) (stmts : ℕ) (stmt : ℕ) (whole : List Stmt) : Type 0 where
  pub of_stmts : List Stmt
  pub of_stmt : Stmt
  pub at_stmts : IsBefore nodes limit stmts (PStmts of_stmts)
  pub at_stmt : IsBefore nodes limit stmt (PStmt of_stmt)
  pub made : whole ≡ (of_stmts ++ of_stmt ∷ [])

pub record IsEmpty (nodes : List Node) (limit : ℕ) (stmts : ℕ) (whole : List Stmt) : Type 0 where
  pub of_stmts : List Stmt
  pub at_stmts : IsBefore nodes limit stmts (PStmts of_stmts)
  pub made : whole ≡ (of_stmts ++ stmt.Empty ∷ [])

pub record IsPastStmts (nodes : List Node) (limit : ℕ) (stmts : ℕ) (whole : List Stmt) : Type 0 where
  pub of_stmts : List Stmt
  pub at_stmts : IsBefore nodes limit stmts (PStmts of_stmts)
  pub made : whole ≡ of_stmts

-- what is told of a node before `limit` is so of this part
abbrev pub IsStmtsNode : List Node → ℕ → StmtsNode → List Stmt → Type 0
IsStmtsNode nodes limit node.NoStmts whole = whole ≡ []
IsStmtsNode nodes limit (node.Stmt stmts stmt) whole = IsStmt nodes limit stmts stmt whole
IsStmtsNode nodes limit (node.Empty stmts) whole = IsEmpty nodes limit stmts whole
IsStmtsNode nodes limit (node.PastStmts stmts) whole = IsPastStmts nodes limit stmts whole
