-- Block nodes. Made by tools/nodes.py from gosyntax.grammar: edit that.
use Rattle.std.specs.Prelude.{◌≡◌, ℕ, ◌<◌, List, length}
use Rattle.gv_gosyntax.specs.declared.generated.gosyntax_acts.Part.TheVariants.{Block as PBlock, Stmts as PStmts}
use Rattle.gv_gosyntax.specs.declared.tree.Block.{Block}
use Rattle.gv_gosyntax.specs.declared.lexeme.Lexeme.{Lexeme}
use Rattle.gv_gosyntax.specs.declared.tree.Stmt.{Stmt}
use Rattle.gv_gosyntax.specs.declared.node.Node.{Node}
use Rattle.gv_gosyntax.specs.Nodes.{IsPartAt}
use Rattle.gv_gonodes.specs.Places.{IsBefore}
use Rattle.gv_gonodes.specs.declared.generated.block_node.BlockNode.{BlockNode}
use Rattle.gv_gonodes.specs.declared.generated.block_node.BlockNode.TheVariants as node

-- a part of the kind stands there
pub record IsSomeBlock (nodes : List Node) (at : ℕ) : Type 0 where
  pub whole : Block
  pub within : at < length nodes
  pub part : IsPartAt nodes at (PBlock whole)

pub record IsBlock (nodes : List Node) (limit : ℕ) (start : Lexeme) (statements : ℕ) (end : Lexeme) (whole : Block) : Type 0 where
  pub of_statements : List Stmt
  pub at_statements : IsBefore nodes limit statements (PStmts of_statements)
  pub made : whole ≡ (record { start = start; statements = of_statements; end = end })

-- what is told of a node before `limit` is so of this part
abbrev pub IsBlockNode : List Node → ℕ → BlockNode → Block → Type 0
IsBlockNode nodes limit (node.Block start statements end) whole = IsBlock nodes limit start statements end whole
