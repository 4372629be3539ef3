-- Arm nodes. Made by tools/script_nodes.py from script.grammar: edit that.
use Rattle.std.specs.Prelude.{◌≡◌, ℕ, ◌<◌, List, length}
use Rattle.gv_termread.specs.declared.generated.term_acts.Part.TheVariants.{Other as POther}
use Rattle.gv_scriptsyntax.specs.declared.generated.script_acts.ScriptPart.TheVariants.{Arm as PArm, Commands as PCommands, Names as PNames}
use Rattle.gv_scriptsyntax.specs.declared.tree.Arm.{Arm}
use Rattle.gv_scriptsyntax.specs.declared.tree.Command.{Command}
use Rattle.gv_termread.specs.declared.token.SeenToken.{SeenToken}
use Rattle.gv_scriptsyntax.specs.declared.node.Node.{Node}
use Rattle.gv_scriptsyntax.specs.Nodes.{IsPartAt}
use Rattle.gv_certnodes.specs.Places.{IsBefore}
use Rattle.gv_commandnodes.specs.declared.generated.arm_node.ArmNode.{ArmNode}
use Rattle.gv_commandnodes.specs.declared.generated.arm_node.ArmNode.TheVariants as node

-- a part of the kind stands there
pub record IsSomeArm (text : List ℕ) (nodes : List Node) (at : ℕ) : Type 0 where
  pub whole : Arm
  pub within : at < length nodes
  pub part : IsPartAt text nodes at (POther (PArm whole))

pub record IsArm (text : List ℕ) (nodes : List Node) (limit : ℕ) (start : SeenToken) (names : ℕ) (commands : ℕ) (end : SeenToken) (whole : Arm) : Type 0 where
  pub of_names : List SeenToken
  pub of_commands : List Command
  pub at_names : IsBefore text nodes limit names (POther (PNames of_names))
  pub at_commands : IsBefore text nodes limit commands (POther (PCommands of_commands))
  pub made : whole ≡ (record { names = of_names; block = record { start = start; commands = of_commands; end = end } })

-- what is told of a node before `limit` is so of this part
abbrev pub IsArmNode : List ℕ → List Node → ℕ → ArmNode → Arm → Type 0
IsArmNode text nodes limit (node.Arm start names commands end) whole = IsArm text nodes limit start names commands end whole
