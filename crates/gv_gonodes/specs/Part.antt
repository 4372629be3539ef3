-- Part nodes. Made by tools/nodes.py from gosyntax.grammar: edit that.
use Rattle.std.specs.Prelude.{◌≡◌, ℕ, ◌<◌, List, length, Some, None, Option}
use Rattle.gv_gosyntax.specs.declared.generated.gosyntax_acts.Part.TheVariants.{Part as PPart, Simple as PSimple}
use Rattle.gv_gosyntax.specs.declared.tree.Simple.{Simple}
use Rattle.gv_gosyntax.specs.declared.node.Node.{Node}
use Rattle.gv_gosyntax.specs.Nodes.{IsPartAt}
use Rattle.gv_gonodes.specs.Places.{IsBefore}
use Rattle.gv_gonodes.specs.declared.generated.part_node.PartNode.{PartNode}
use Rattle.gv_gonodes.specs.declared.generated.part_node.PartNode.TheVariants as node

-- a part of the kind stands there
pub record IsSomePart (nodes : List Node) (at : ℕ) : Type 0 where
  pub whole : Option Simple
  pub within : at < length nodes
  pub part : IsPartAt nodes at (PPart whole)

pub record IsPart (nodes : List Node) (limit : ℕ) (simple : ℕ) (whole : Option Simple) : Type 0 where
  pub of_simple : Simple
  pub at_simple : IsBefore nodes limit simple (PSimple of_simple)
  pub made : whole ≡ (Some of_simple)

-- what is told of a node before `limit` is so of this part
abbrev pub IsPartNode : List Node → ℕ → PartNode → Option Simple → Type 0
IsPartNode nodes limit node.NoPart whole = whole ≡ None
IsPartNode nodes limit (node.Part simple) whole = IsPart nodes limit simple whole
