-- The plain tree of each form of a statement.
use Rattle.std.proofs.Common.{◌≡◌, List, map, Option, Some, None, rules}
use Rattle.std.specs.Prelude.{option_map}
use Rattle.gv_gosyntax.specs.declared.lexeme.Lexeme.{Lexeme}
use Rattle.gv_gosyntax.specs.declared.tree.Block.{Block as DeclaredBlock}
use Rattle.gv_gosyntax.specs.declared.tree.Block as declared_block
use Rattle.gv_gosyntax.specs.declared.tree.Expr.{Expr as DeclaredExpr}
use Rattle.gv_gosyntax.specs.declared.tree.ForHeader.{ForHeader as DeclaredHeader}
use Rattle.gv_gosyntax.specs.declared.tree.GoType.{GoType}
use Rattle.gv_gosyntax.specs.declared.tree.Right.{Right as DeclaredRight}
use Rattle.gv_gosyntax.specs.declared.tree.Simple.{Simple as DeclaredSimple}
use Rattle.gv_gosyntax.specs.declared.tree.Stmt.{Stmt as DeclaredStmt}
use Rattle.gv_gosyntax.specs.declared.tree.Stmt as declared_stmt
use Rattle.gv_gosyntax.specs.declared.tree.Stmt.TheVariants as stmt
use Rattle.gv_gotypes.specs.Trees.{Empty, Simple, Var, If, Nested, Jump, For, Return, Go, braces, stmts_of, no_branch, branch, simple_of, expr_of, right_of, header_of, block_of}
use Rattle.gv_goends.specs.Trees.{stmt_of}

pub empty_stmt : stmt_of stmt.Empty ≡ Empty
unfolding stmt_of
empty_stmt = search (rules, declared_stmt.the_lemmas)

pub simple_stmt : (s : DeclaredSimple) → stmt_of (stmt.Simple s) ≡ Simple (simple_of s)
unfolding stmt_of
simple_stmt s = search (rules, declared_stmt.the_lemmas)

pub var_stmt : (w i : Lexeme) (t : GoType) (r : Option DeclaredRight) → stmt_of (stmt.Var w i t r) ≡ Var w i t (option_map right_of r)
unfolding stmt_of
var_stmt w i t r = search (rules, declared_stmt.the_lemmas)

pub if_stmt : (w : Lexeme) (e : DeclaredExpr) (b : DeclaredBlock) → stmt_of (stmt.If w e b None) ≡ If w (expr_of e) (block_of b) no_branch
unfolding stmt_of block_of
if_stmt w e b = search (rules, declared_stmt.the_lemmas)

pub else_stmt : (w : Lexeme) (e : DeclaredExpr) (b : DeclaredBlock) (o : DeclaredStmt) → stmt_of (stmt.If w e b (Some o)) ≡ If w (expr_of e) (block_of b) (branch (stmt_of o))
unfolding stmt_of block_of
else_stmt w e b o = search (rules, declared_stmt.the_lemmas)

pub nested_stmt : (b : DeclaredBlock) → stmt_of (stmt.Block b) ≡ Nested (block_of b)
unfolding stmt_of block_of
nested_stmt b = search (rules, declared_stmt.the_lemmas)

pub jump_stmt : (w : Lexeme) → stmt_of (stmt.Jump w) ≡ Jump w
unfolding stmt_of
jump_stmt w = search (rules, declared_stmt.the_lemmas)

pub for_stmt : (w : Lexeme) (h : DeclaredHeader) (b : DeclaredBlock) → stmt_of (stmt.For w h b) ≡ For w (header_of h) (block_of b)
unfolding stmt_of block_of
for_stmt w h b = search (rules, declared_stmt.the_lemmas)

pub return_stmt : (w : Lexeme) (rs : List DeclaredRight) → stmt_of (stmt.Return w rs) ≡ Return w (map right_of rs)
unfolding stmt_of
return_stmt w rs = search (rules, declared_stmt.the_lemmas)

pub go_stmt : (w : Lexeme) (b : DeclaredBlock) → stmt_of (stmt.Go w b) ≡ Go w (block_of b)
unfolding stmt_of block_of
go_stmt w b = search (rules, declared_stmt.the_lemmas)

pub block_is : (o c : Lexeme) (ss : List DeclaredStmt) → block_of (record { start = o; statements = ss; end = c }) ≡ braces o (stmts_of (map stmt_of ss)) c
unfolding stmt_of block_of
block_is o c ss = search (rules, declared_block.the_lemmas)
