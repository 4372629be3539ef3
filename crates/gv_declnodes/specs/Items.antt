-- Items nodes. Made by tools/script_nodes.py from script.grammar: edit that.
use Rattle.std.specs.Prelude.{◌≡◌, ℕ, ◌<◌, List, length, [], ◌∷◌, ◌++◌}
use Rattle.gv_termread.specs.declared.generated.term_acts.Part.TheVariants.{Other as POther}
use Rattle.gv_scriptsyntax.specs.declared.generated.script_acts.ScriptPart.TheVariants.{Item as PItem, Items as PItems}
use Rattle.gv_scriptsyntax.specs.declared.tree.Item.{Item}
use Rattle.gv_scriptsyntax.specs.declared.node.Node.{Node}
use Rattle.gv_scriptsyntax.specs.Nodes.{IsPartAt}
use Rattle.gv_certnodes.specs.Places.{IsBefore}
use Rattle.gv_declnodes.specs.declared.generated.items_node.ItemsNode.{ItemsNode}
use Rattle.gv_declnodes.specs.declared.generated.items_node.ItemsNode.TheVariants as node

-- a part of the kind stands there
pub record IsSomeItems (text : List ℕ) (nodes : List Node) (at : ℕ) : Type 0 where
  pub whole : List Item
  pub within : at < length nodes
  pub part : IsPartAt text nodes at (POther (PItems whole))

pub record IsItem (text : List ℕ) (nodes : List Node) (limit : ℕ) (items : ℕ) (next : ℕ) (whole : List Item) : Type 0 where
  pub of_items : List Item
  pub of_next : Item
  pub at_items : IsBefore text nodes limit items (POther (PItems of_items))
  pub at_next : IsBefore text nodes limit next (POther (PItem of_next))
  pub made : whole ≡ (of_items ++ of_next ∷ [])

pub record IsInItems (text : List ℕ) (nodes : List Node) (limit : ℕ) (items : ℕ) (whole : List Item) : Type 0 where
  pub of_items : List Item
  pub at_items : IsBefore text nodes limit items (POther (PItems of_items))
  pub made : whole ≡ of_items

-- what is told of a node before `limit` is so of this part
abbrev pub IsItemsNode : List ℕ → List Node → ℕ → ItemsNode → List Item → Type 0
IsItemsNode text nodes limit node.NoItems whole = whole ≡ []
IsItemsNode text nodes limit (node.Item items next) whole = IsItem text nodes limit items next whole
IsItemsNode text nodes limit (node.InItems items) whole = IsInItems text nodes limit items whole
