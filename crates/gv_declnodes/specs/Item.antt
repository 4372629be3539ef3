-- Item nodes. Made by tools/script_nodes.py from script.grammar: edit that.
use Rattle.std.specs.Prelude.{◌≡◌, ℕ, ◌<◌, List, length}
use Rattle.gv_termread.specs.declared.generated.term_acts.Part.TheVariants.{Term as PTerm, Other as POther}
use Rattle.gv_scriptsyntax.specs.declared.generated.script_acts.ScriptPart.TheVariants.{Atom as PAtom, Item as PItem}
use Rattle.gv_scriptsyntax.specs.declared.tree.Atom.{Atom}
use Rattle.gv_scriptsyntax.specs.declared.tree.Item.{Item}
use Rattle.gv_termread.specs.declared.placed.PlacedTerm.{PlacedTerm}
use Rattle.gv_scriptsyntax.specs.declared.node.Node.{Node}
use Rattle.gv_scriptsyntax.specs.declared.tree.Item.TheVariants as item
use Rattle.gv_scriptsyntax.specs.Nodes.{IsPartAt}
use Rattle.gv_certnodes.specs.Places.{IsBefore}
use Rattle.gv_declnodes.specs.declared.generated.item_node.ItemNode.{ItemNode}
use Rattle.gv_declnodes.specs.declared.generated.item_node.ItemNode.TheVariants as node

-- a part of the kind stands there
pub record IsSomeItem (text : List ℕ) (nodes : List Node) (at : ℕ) : Type 0 where
  pub whole : Item
  pub within : at < length nodes
  pub part : IsPartAt text nodes at (POther (PItem whole))

pub record IsFact (text : List ℕ) (nodes : List Node) (limit : ℕ) (term : ℕ) (whole : Item) : Type 0 where
  pub of_term : PlacedTerm
  pub at_term : IsBefore text nodes limit term (PTerm of_term)
  pub made : whole ≡ (item.Fact of_term)

pub record IsHeld (text : List ℕ) (nodes : List Node) (limit : ℕ) (held : ℕ) (whole : Item) : Type 0 where
  pub of_held : Atom
  pub at_held : IsBefore text nodes limit held (POther (PAtom of_held))
  pub made : whole ≡ (item.Held of_held)

-- what is told of a node before `limit` is so of this part
abbrev pub IsItemNode : List ℕ → List Node → ℕ → ItemNode → Item → Type 0
IsItemNode text nodes limit (node.Fact term) whole = IsFact text nodes limit term whole
IsItemNode text nodes limit (node.Held held) whole = IsHeld text nodes limit held whole
