-- MaybeTerm nodes. Made by tools/script_nodes.py from script.grammar: edit that.
use Rattle.std.specs.Prelude.{◌≡◌, ℕ, ◌<◌, List, length, Some, None, Option}
use Rattle.gv_termread.specs.declared.generated.term_acts.Part.TheVariants.{Term as PTerm, Other as POther}
use Rattle.gv_scriptsyntax.specs.declared.generated.script_acts.ScriptPart.TheVariants.{MaybeTerm as PMaybeTerm}
use Rattle.gv_termread.specs.declared.placed.PlacedTerm.{PlacedTerm}
use Rattle.gv_scriptsyntax.specs.declared.node.Node.{Node}
use Rattle.gv_scriptsyntax.specs.Nodes.{IsPartAt}
use Rattle.gv_certnodes.specs.Places.{IsBefore}
use Rattle.gv_certnodes.specs.declared.generated.maybe_term_node.MaybeTermNode.{MaybeTermNode}
use Rattle.gv_certnodes.specs.declared.generated.maybe_term_node.MaybeTermNode.TheVariants as node

-- a part of the kind stands there
pub record IsSomeMaybeTerm (text : List ℕ) (nodes : List Node) (at : ℕ) : Type 0 where
  pub whole : Option PlacedTerm
  pub within : at < length nodes
  pub part : IsPartAt text nodes at (POther (PMaybeTerm whole))

pub record IsWordTerm (text : List ℕ) (nodes : List Node) (limit : ℕ) (term : ℕ) (whole : Option PlacedTerm) : Type 0 where
  pub of_term : PlacedTerm
  pub at_term : IsBefore text nodes limit term (PTerm of_term)
  pub made : whole ≡ (Some of_term)

-- what is told of a node before `limit` is so of this part
abbrev pub IsMaybeTermNode : List ℕ → List Node → ℕ → MaybeTermNode → Option PlacedTerm → Type 0
IsMaybeTermNode text nodes limit node.NoTerm whole = whole ≡ None
IsMaybeTermNode text nodes limit (node.WordTerm term) whole = IsWordTerm text nodes limit term whole
