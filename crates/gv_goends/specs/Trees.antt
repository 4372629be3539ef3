-- The plain trees of statements, and how each ends.
use Rattle.std.specs.Prelude.{◌≡◌, ℕ, Bool, false, List, map}
use Rattle.gv_gosyntax.specs.declared.tree.Stmt.{Stmt as DeclaredStmt, fold-Stmt}
use Rattle.gv_gonodes.specs.declared.generated.block_node.BlockNode.{BlockNode}
use Rattle.gv_gonodes.specs.declared.generated.block_node.BlockNode.TheVariants as node
use Rattle.gv_gotypes.specs.Trees.{Stmt, Block, Stmts, next, no_more, stmts_of, stmt_here, block_here}
use Rattle.gv_gotypes.specs.Returns.{ends, is_empty}

-- the plain tree of a statement, as that of a block has it
unfoldable pub stmt_of : DeclaredStmt → Stmt
stmt_of = fold-Stmt Stmt Block stmt_here block_here

abbrev pub plain : List DeclaredStmt → Stmts
plain ss = stmts_of (map stmt_of ss)

-- A statement that isn't empty ends in a return, or doesn't.
pub record IsEnd (result : Bool) (s : DeclaredStmt) : Type 0 where
  pub same : result ≡ ends (stmt_of s)
  pub some : is_empty (next (stmt_of s) no_more) ≡ false

-- where the statements of a block stand, by its node
abbrev pub statements_by : BlockNode → ℕ
statements_by (node.Block start statements end) = statements
