-- Stmt nodes. Made by tools/nodes.py from gosyntax.grammar: edit that.
use Rattle.std.specs.Prelude.{◌≡◌, ℕ, ◌<◌, List, length, Some, None, Option}
use Rattle.gv_gosyntax.specs.declared.generated.gosyntax_acts.Part.TheVariants.{Block as PBlock, Bound as PBound, Expr as PExpr, GoType as PGoType, Part as PPart, Right as PRight, Rights as PRights, Simple as PSimple, Stmt as PStmt}
use Rattle.gv_gosyntax.specs.declared.tree.Block.{Block}
use Rattle.gv_gosyntax.specs.declared.tree.Expr.{Expr}
use Rattle.gv_gosyntax.specs.declared.tree.GoType.{GoType}
use Rattle.gv_gosyntax.specs.declared.lexeme.Lexeme.{Lexeme}
use Rattle.gv_gosyntax.specs.declared.tree.Right.{Right}
use Rattle.gv_gosyntax.specs.declared.tree.Simple.{Simple}
use Rattle.gv_gosyntax.specs.declared.tree.Stmt.{Stmt}
use Rattle.gv_gosyntax.specs.declared.node.Node.{Node}
use Rattle.gv_gosyntax.specs.declared.tree.Stmt.TheVariants as stmt
use Rattle.gv_gosyntax.specs.Nodes.{IsPartAt}
use Rattle.gv_gonodes.specs.Places.{IsBefore}
use Rattle.gv_gonodes.specs.declared.generated.stmt_node.StmtNode.{StmtNode}
use Rattle.gv_gonodes.specs.declared.generated.stmt_node.StmtNode.TheVariants as node

-- a part of the kind stands there
pub record IsSomeStmt (nodes : List Node) (at : ℕ) : Type 0 where
  pub whole : Stmt
  pub within : at < length nodes
  pub part : IsPartAt nodes at (PStmt whole)

pub record IsSimple (nodes : List Node) (limit : ℕ) (simple : ℕ) (whole : Stmt) : Type 0 where
  pub of_simple : Simple
  pub at_simple : IsBefore nodes limit simple (PSimple of_simple)
  pub made : whole ≡ (stmt.Simple of_simple)

pub record IsVar (nodes : List Node) (limit : ℕ) (word : Lexeme) (name : Lexeme) (kind : ℕ) (whole : Stmt) : Type 0 where
  pub of_kind : GoType
  pub at_kind : IsBefore nodes limit kind (PGoType of_kind)
  pub made : whole ≡ (stmt.Var word name of_kind None)

pub record IsVarValue (nodes : List Node) (limit : ℕ) (word : Lexeme) (name : Lexeme) (kind : ℕ) (value : ℕ) (whole : Stmt) : Type 0 where
  pub of_kind : GoType
  pub of_value : Right
  pub at_kind : IsBefore nodes limit kind (PGoType of_kind)
  pub at_value : IsBefore nodes limit value (PRight of_value)
  pub made : whole ≡ (stmt.Var word name of_kind (Some of_value))

pub record IsIf (nodes : List Node) (limit : ℕ) (word : Lexeme) (condition : ℕ) (body : ℕ) (whole : Stmt) : Type 0 where
  pub of_condition : Expr
  pub of_body : Block
  pub at_condition : IsBefore nodes limit condition (PExpr of_condition)
  pub at_body : IsBefore nodes limit body (PBlock of_body)
  pub made : whole ≡ (stmt.If word of_condition of_body None)

pub record IsIfElse (nodes : List Node) (limit : ℕ) (word : Lexeme) (condition : ℕ) (body : ℕ) (other : ℕ) (whole : Stmt) : Type 0 where
  pub of_condition : Expr
  pub of_body : Block
  pub of_other : Stmt
  pub at_condition : IsBefore nodes limit condition (PExpr of_condition)
  pub at_body : IsBefore nodes limit body (PBlock of_body)
  pub at_other : IsBefore nodes limit other (PStmt of_other)
  pub made : whole ≡ (stmt.If word of_condition of_body (Some of_other))

pub record IsNested (nodes : List Node) (limit : ℕ) (block : ℕ) (whole : Stmt) : Type 0 where
  pub of_block : Block
  pub at_block : IsBefore nodes limit block (PBlock of_block)
  pub made : whole ≡ (stmt.Block of_block)

pub record IsForever (nodes : List Node) (limit : ℕ) (word : Lexeme) (body : ℕ) (whole : Stmt) : Type 0 where
  pub of_body : Block
  pub at_body : IsBefore nodes limit body (PBlock of_body)
  pub made : whole ≡ (stmt.For word (record { first = None; condition = None; post = None }) of_body)

pub record IsWhile (nodes : List Node) (limit : ℕ) (word : Lexeme) (condition : ℕ) (body : ℕ) (whole : Stmt) : Type 0 where
  pub of_condition : Expr
  pub of_body : Block
  pub at_condition : IsBefore nodes limit condition (PExpr of_condition)
  pub at_body : IsBefore nodes limit body (PBlock of_body)
  pub made : whole ≡ (stmt.For word (record { first = None; condition = Some of_condition; post = None }) of_body)

pub record IsFor (nodes : List Node) (limit : ℕ) (word : Lexeme) (first : ℕ) (condition : ℕ) (post : ℕ) (body : ℕ) (whole : Stmt) : Type 0 where
  pub of_first : Option Simple
  pub of_condition : Option Expr
  pub of_post : Option Simple
  pub of_body : Block
  pub at_first : IsBefore nodes limit first (PPart of_first)
  pub at_condition : IsBefore nodes limit condition (PBound of_condition)
  pub at_post : IsBefore nodes limit post (PPart of_post)
  pub at_body : IsBefore nodes limit body (PBlock of_body)
  pub made : whole ≡ (stmt.For word (record { first = of_first; condition = of_condition; post = of_post }) of_body)

pub record IsReturn (nodes : List Node) (limit : ℕ) (word : Lexeme) (rights : ℕ) (whole : Stmt) : Type 0 where
  pub of_rights : List Right
  pub at_rights : IsBefore nodes limit rights (PRights of_rights)
  pub made : whole ≡ (stmt.Return word of_rights)

pub record IsGo (nodes : List Node) (limit : ℕ) (word : Lexeme) (body : ℕ) (whole : Stmt) : Type 0 where
  pub of_body : Block
  pub at_body : IsBefore nodes limit body (PBlock of_body)
  pub made : whole ≡ (stmt.Go word of_body)

-- what is told of a node before `limit` is so of this part
abbrev pub IsStmtNode : List Node → ℕ → StmtNode → Stmt → Type 0
IsStmtNode nodes limit (node.Simple simple) whole = IsSimple nodes limit simple whole
IsStmtNode nodes limit (node.Var word name kind) whole = IsVar nodes limit word name kind whole
IsStmtNode nodes limit (node.VarValue word name kind value) whole = IsVarValue nodes limit word name kind value whole
IsStmtNode nodes limit (node.If word condition body) whole = IsIf nodes limit word condition body whole
IsStmtNode nodes limit (node.IfElse word condition body other) whole = IsIfElse nodes limit word condition body other whole
IsStmtNode nodes limit (node.Nested block) whole = IsNested nodes limit block whole
IsStmtNode nodes limit (node.Jump word) whole = whole ≡ (stmt.Jump word)
IsStmtNode nodes limit (node.Forever word body) whole = IsForever nodes limit word body whole
IsStmtNode nodes limit (node.While word condition body) whole = IsWhile nodes limit word condition body whole
IsStmtNode nodes limit (node.For word first condition post body) whole = IsFor nodes limit word first condition post body whole
IsStmtNode nodes limit (node.Return word rights) whole = IsReturn nodes limit word rights whole
IsStmtNode nodes limit (node.Go word body) whole = IsGo nodes limit word body whole
