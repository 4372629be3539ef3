-- Commands nodes. Made by tools/script_nodes.py from script.grammar: edit that.
use Rattle.std.specs.Prelude.{◌≡◌, ℕ, ◌<◌, List, length, [], ◌∷◌, ◌++◌}
use Rattle.gv_termread.specs.declared.generated.term_acts.Part.TheVariants.{Other as POther}
use Rattle.gv_scriptsyntax.specs.declared.generated.script_acts.ScriptPart.TheVariants.{Command as PCommand, Commands as PCommands}
use Rattle.gv_scriptsyntax.specs.declared.tree.Command.{Command}
use Rattle.gv_scriptsyntax.specs.declared.node.Node.{Node}
use Rattle.gv_scriptsyntax.specs.Nodes.{IsPartAt}
use Rattle.gv_certnodes.specs.Places.{IsBefore}
use Rattle.gv_commandnodes.specs.declared.generated.commands_node.CommandsNode.{CommandsNode}
use Rattle.gv_commandnodes.specs.declared.generated.commands_node.CommandsNode.TheVariants as node

-- a part of the kind stands there
pub record IsSomeCommands (text : List ℕ) (nodes : List Node) (at : ℕ) : Type 0 where
  pub whole : List Command
  pub within : at < length nodes
  pub part : IsPartAt text nodes at (POther (PCommands whole))

pub record IsCommand (text : List ℕ) (nodes : List Node) (limit : ℕ) (commands : ℕ) (next : ℕ) (whole : List Command) : Type 0 where
  pub of_commands : List Command
  pub of_next : Command
  pub at_commands : IsBefore text nodes limit commands (POther (PCommands of_commands))
  pub at_next : IsBefore text nodes limit next (POther (PCommand of_next))
  pub made : whole ≡ (of_commands ++ of_next ∷ [])

pub record IsLast (text : List ℕ) (nodes : List Node) (limit : ℕ) (commands : ℕ) (last : ℕ) (whole : List Command) : Type 0 where
  pub of_commands : List Command
  pub of_last : Command
  pub at_commands : IsBefore text nodes limit commands (POther (PCommands of_commands))
  pub at_last : IsBefore text nodes limit last (POther (PCommand of_last))
  pub made : whole ≡ (of_commands ++ of_last ∷ [])

-- what is told of a node before `limit` is so of this part
abbrev pub IsCommandsNode : List ℕ → List Node → ℕ → CommandsNode → List Command → Type 0
IsCommandsNode text nodes limit node.NoCommands whole = whole ≡ []
IsCommandsNode text nodes limit (node.Command commands next) whole = IsCommand text nodes limit commands next whole
IsCommandsNode text nodes limit (node.Last commands last) whole = IsLast text nodes limit commands last whole
