-- MaybeBlock nodes. Made by tools/script_nodes.py from script.grammar: edit that.
use Rattle.std.specs.Prelude.{◌≡◌, ℕ, ◌<◌, List, length, Some, None, Option}
use Rattle.gv_termread.specs.declared.generated.term_acts.Part.TheVariants.{Other as POther}
use Rattle.gv_scriptsyntax.specs.declared.generated.script_acts.ScriptPart.TheVariants.{Block as PBlock, MaybeBlock as PMaybeBlock}
use Rattle.gv_scriptsyntax.specs.declared.tree.Block.{Block}
use Rattle.gv_scriptsyntax.specs.declared.node.Node.{Node}
use Rattle.gv_scriptsyntax.specs.Nodes.{IsPartAt}
use Rattle.gv_certnodes.specs.Places.{IsBefore}
use Rattle.gv_commandnodes.specs.declared.generated.maybe_block_node.MaybeBlockNode.{MaybeBlockNode}
use Rattle.gv_commandnodes.specs.declared.generated.maybe_block_node.MaybeBlockNode.TheVariants as node

-- a part of the kind stands there
pub record IsSomeMaybeBlock (text : List ℕ) (nodes : List Node) (at : ℕ) : Type 0 where
  pub whole : Option Block
  pub within : at < length nodes
  pub part : IsPartAt text nodes at (POther (PMaybeBlock whole))

pub record IsDuring (text : List ℕ) (nodes : List Node) (limit : ℕ) (block : ℕ) (whole : Option Block) : Type 0 where
  pub of_block : Block
  pub at_block : IsBefore text nodes limit block (POther (PBlock of_block))
  pub made : whole ≡ (Some of_block)

-- what is told of a node before `limit` is so of this part
abbrev pub IsMaybeBlockNode : List ℕ → List Node → ℕ → MaybeBlockNode → Option Block → Type 0
IsMaybeBlockNode text nodes limit node.NoDuring whole = whole ≡ None
IsMaybeBlockNode text nodes limit (node.During block) whole = IsDuring text nodes limit block whole
