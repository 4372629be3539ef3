-- Block nodes. Made by tools/script_nodes.py from script.grammar: edit that.
use Rattle.std.specs.Prelude.{◌≡◌, ℕ, ◌<◌, List, length}
use Rattle.gv_termread.specs.declared.generated.term_acts.Part.TheVariants.{Other as POther}
use Rattle.gv_scriptsyntax.specs.declared.generated.script_acts.ScriptPart.TheVariants.{Block as PBlock, Commands as PCommands}
use Rattle.gv_scriptsyntax.specs.declared.tree.Block.{Block}
use Rattle.gv_scriptsyntax.specs.declared.tree.Command.{Command}
use Rattle.gv_termread.specs.declared.token.SeenToken.{SeenToken}
use Rattle.gv_scriptsyntax.specs.declared.node.Node.{Node}
use Rattle.gv_scriptsyntax.specs.Nodes.{IsPartAt}
use Rattle.gv_certnodes.specs.Places.{IsBefore}
use Rattle.gv_commandnodes.specs.declared.generated.block_node.BlockNode.{BlockNode}
use Rattle.gv_commandnodes.specs.declared.generated.block_node.BlockNode.TheVariants as node

-- a part of the kind stands there
pub record IsSomeBlock (text : List ℕ) (nodes : List Node) (at : ℕ) : Type 0 where
  pub whole : Block
  pub within : at < length nodes
  pub part : IsPartAt text nodes at (POther (PBlock whole))

pub record IsBlock (text : List ℕ) (nodes : List Node) (limit : ℕ) (start : SeenToken) (commands : ℕ) (end : SeenToken) (whole : Block) : Type 0 where
  pub of_commands : List Command
  pub at_commands : IsBefore text nodes limit commands (POther (PCommands of_commands))
  pub made : whole ≡ (record { start = start; commands = of_commands; end = end })

-- what is told of a node before `limit` is so of this part
abbrev pub IsBlockNode : List ℕ → List Node → ℕ → BlockNode → Block → Type 0
IsBlockNode text nodes limit (node.Block start commands end) whole = IsBlock text nodes limit start commands end whole
