-- Ops nodes. Made by tools/script_nodes.py from script.grammar: edit that.
use Rattle.std.specs.Prelude.{◌≡◌, ℕ, ◌<◌, List, length, [], ◌∷◌, ◌++◌}
use Rattle.gv_termread.specs.declared.generated.term_acts.Part.TheVariants.{Other as POther}
use Rattle.gv_scriptsyntax.specs.declared.generated.script_acts.ScriptPart.TheVariants.{Block as PBlock, Cuts as PCuts, Ops as POps}
use Rattle.gv_scriptsyntax.specs.declared.tree.Block.{Block}
use Rattle.gv_scriptsyntax.specs.declared.tree.Cut.{Cut}
use Rattle.gv_scriptsyntax.specs.declared.tree.Op.{Op}
use Rattle.gv_termread.specs.declared.token.SeenToken.{SeenToken}
use Rattle.gv_scriptsyntax.specs.declared.node.Node.{Node}
use Rattle.gv_scriptsyntax.specs.Nodes.{IsPartAt}
use Rattle.gv_certnodes.specs.Places.{IsBefore}
use Rattle.gv_declnodes.specs.declared.generated.ops_node.OpsNode.{OpsNode}
use Rattle.gv_declnodes.specs.declared.generated.ops_node.OpsNode.TheVariants as node

-- a part of the kind stands there
pub record IsSomeOps (text : List ℕ) (nodes : List Node) (at : ℕ) : Type 0 where
  pub whole : List Op
  pub within : at < length nodes
  pub part : IsPartAt text nodes at (POther (POps whole))

pub record IsOp (text : List ℕ) (nodes : List Node) (limit : ℕ) (ops : ℕ) (name : SeenToken) (block : ℕ) (cuts : ℕ) (whole : List Op) : Type 0 where
  pub of_ops : List Op
  pub of_block : Block
  pub of_cuts : List Cut
  pub at_ops : IsBefore text nodes limit ops (POther (POps of_ops))
  pub at_block : IsBefore text nodes limit block (POther (PBlock of_block))
  pub at_cuts : IsBefore text nodes limit cuts (POther (PCuts of_cuts))
  pub made : whole ≡ (of_ops ++ (record { name = name; block = of_block; cuts = of_cuts }) ∷ [])

-- what is told of a node before `limit` is so of this part
abbrev pub IsOpsNode : List ℕ → List Node → ℕ → OpsNode → List Op → Type 0
IsOpsNode text nodes limit node.NoOps whole = whole ≡ []
IsOpsNode text nodes limit (node.Op ops name block cuts) whole = IsOp text nodes limit ops name block cuts whole
