-- Receiver nodes. Made by tools/nodes.py from gosyntax.grammar: edit that.
use Rattle.std.specs.Prelude.{◌≡◌, ℕ, ◌<◌, List, length, Some, None, Option}
use Rattle.gv_gosyntax.specs.declared.generated.gosyntax_acts.Part.TheVariants.{Receiver as PReceiver}
use Rattle.gv_gosyntax.specs.declared.tree.Receiver.{Receiver}
use Rattle.gv_gosyntax.specs.declared.node.Node.{Node}
use Rattle.gv_gosyntax.specs.Nodes.{IsPartAt}
use Rattle.gv_gonodes.specs.declared.generated.receiver_node.ReceiverNode.{ReceiverNode}
use Rattle.gv_gonodes.specs.declared.generated.receiver_node.ReceiverNode.TheVariants as node

-- a part of the kind stands there
pub record IsSomeReceiver (nodes : List Node) (at : ℕ) : Type 0 where
  pub whole : Option Receiver
  pub within : at < length nodes
  pub part : IsPartAt nodes at (PReceiver whole)

-- what is told of a node before `limit` is so of this part
abbrev pub IsReceiverNode : List Node → ℕ → ReceiverNode → Option Receiver → Type 0
IsReceiverNode nodes limit node.NoReceiver whole = whole ≡ None
IsReceiverNode nodes limit (node.Receiver name of) whole = whole ≡ (Some (record { name = name; of = of }))
