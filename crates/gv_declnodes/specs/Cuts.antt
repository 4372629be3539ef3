-- Cuts nodes. Made by tools/script_nodes.py from script.grammar: edit that.
use Rattle.std.specs.Prelude.{◌≡◌, ℕ, ◌<◌, List, length, [], ◌∷◌, ◌++◌}
use Rattle.gv_termread.specs.declared.generated.term_acts.Part.TheVariants.{Other as POther}
use Rattle.gv_scriptsyntax.specs.declared.generated.script_acts.ScriptPart.TheVariants.{Block as PBlock, Cuts as PCuts, Items as PItems, Names as PNames, Pars as PPars}
use Rattle.gv_scriptsyntax.specs.declared.tree.Block.{Block}
use Rattle.gv_scriptsyntax.specs.declared.tree.Cut.{Cut}
use Rattle.gv_scriptsyntax.specs.declared.tree.Item.{Item}
use Rattle.gv_scriptsyntax.specs.declared.tree.Par.{Par}
use Rattle.gv_termread.specs.declared.token.SeenToken.{SeenToken}
use Rattle.gv_scriptsyntax.specs.declared.node.Node.{Node}
use Rattle.gv_scriptsyntax.specs.Nodes.{IsPartAt}
use Rattle.gv_certnodes.specs.Places.{IsBefore}
use Rattle.gv_declnodes.specs.declared.generated.cuts_node.CutsNode.{CutsNode}
use Rattle.gv_declnodes.specs.declared.generated.cuts_node.CutsNode.TheVariants as node

-- a part of the kind stands there
pub record IsSomeCuts (text : List ℕ) (nodes : List Node) (at : ℕ) : Type 0 where
  pub whole : List Cut
  pub within : at < length nodes
  pub part : IsPartAt text nodes at (POther (PCuts whole))

pub record IsCut (text : List ℕ) (nodes : List Node) (limit : ℕ) (cuts : ℕ) (name : SeenToken) (number : SeenToken) (mode : SeenToken) (locals : ℕ) (vars : ℕ) (items : ℕ) (block : ℕ) (whole : List Cut) : Type 0 where
  pub of_cuts : List Cut
  pub of_locals : List SeenToken
  pub of_vars : List Par
  pub of_items : List Item
  pub of_block : Block
  pub at_cuts : IsBefore text nodes limit cuts (POther (PCuts of_cuts))
  pub at_locals : IsBefore text nodes limit locals (POther (PNames of_locals))
  pub at_vars : IsBefore text nodes limit vars (POther (PPars of_vars))
  pub at_items : IsBefore text nodes limit items (POther (PItems of_items))
  pub at_block : IsBefore text nodes limit block (POther (PBlock of_block))
  pub made : whole ≡ (of_cuts ++ (record { name = name; number = number; mode = mode; locals = of_locals; vars = of_vars; items = of_items; block = of_block }) ∷ [])

-- what is told of a node before `limit` is so of this part
abbrev pub IsCutsNode : List ℕ → List Node → ℕ → CutsNode → List Cut → Type 0
IsCutsNode text nodes limit node.NoCuts whole = whole ≡ []
IsCutsNode text nodes limit (node.Cut cuts name number mode locals vars items block) whole = IsCut text nodes limit cuts name number mode locals vars items block whole
