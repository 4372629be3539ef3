-- Blocks nodes. Made by tools/script_nodes.py from script.grammar: edit that.
use Rattle.std.specs.Prelude.{◌≡◌, ℕ, ◌<◌, List, length, [], ◌∷◌, ◌++◌}
use Rattle.gv_termread.specs.declared.generated.term_acts.Part.TheVariants.{Other as POther}
use Rattle.gv_scriptsyntax.specs.declared.generated.script_acts.ScriptPart.TheVariants.{Block as PBlock, Blocks as PBlocks}
use Rattle.gv_scriptsyntax.specs.declared.tree.Block.{Block}
use Rattle.gv_scriptsyntax.specs.declared.node.Node.{Node}
use Rattle.gv_scriptsyntax.specs.Nodes.{IsPartAt}
use Rattle.gv_certnodes.specs.Places.{IsBefore}
use Rattle.gv_commandnodes.specs.declared.generated.blocks_node.BlocksNode.{BlocksNode}
use Rattle.gv_commandnodes.specs.declared.generated.blocks_node.BlocksNode.TheVariants as node

-- a part of the kind stands there
pub record IsSomeBlocks (text : List ℕ) (nodes : List Node) (at : ℕ) : Type 0 where
  pub whole : List Block
  pub within : at < length nodes
  pub part : IsPartAt text nodes at (POther (PBlocks whole))

pub record IsNextBlock (text : List ℕ) (nodes : List Node) (limit : ℕ) (blocks : ℕ) (block : ℕ) (whole : List Block) : Type 0 where
  pub of_blocks : List Block
  pub of_block : Block
  pub at_blocks : IsBefore text nodes limit blocks (POther (PBlocks of_blocks))
  pub at_block : IsBefore text nodes limit block (POther (PBlock of_block))
  pub made : whole ≡ (of_blocks ++ of_block ∷ [])

-- what is told of a node before `limit` is so of this part
abbrev pub IsBlocksNode : List ℕ → List Node → ℕ → BlocksNode → List Block → Type 0
IsBlocksNode text nodes limit node.NoBlocks whole = whole ≡ []
IsBlocksNode text nodes limit (node.NextBlock blocks block) whole = IsNextBlock text nodes limit blocks block whole
