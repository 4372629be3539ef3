-- Script nodes. Made by tools/script_nodes.py from script.grammar: edit that.
use Rattle.std.specs.Prelude.{◌≡◌, ℕ, ◌<◌, List, length}
use Rattle.gv_termread.specs.declared.generated.term_acts.Part.TheVariants.{Other as POther}
use Rattle.gv_scriptsyntax.specs.declared.generated.script_acts.ScriptPart.TheVariants.{Block as PBlock, Books as PBooks, Cuts as PCuts, Ops as POps, Preds as PPreds, Procs as PProcs, Script as PScript}
use Rattle.gv_scriptsyntax.specs.declared.tree.Block.{Block}
use Rattle.gv_scriptsyntax.specs.declared.tree.Book.{Book}
use Rattle.gv_scriptsyntax.specs.declared.tree.Cut.{Cut}
use Rattle.gv_scriptsyntax.specs.declared.tree.Op.{Op}
use Rattle.gv_scriptsyntax.specs.declared.tree.Pred.{Pred}
use Rattle.gv_scriptsyntax.specs.declared.tree.Proc.{Proc}
use Rattle.gv_scriptsyntax.specs.declared.tree.Script.{Script}
use Rattle.gv_termread.specs.declared.token.SeenToken.{SeenToken}
use Rattle.gv_scriptsyntax.specs.declared.node.Node.{Node}
use Rattle.gv_scriptsyntax.specs.Nodes.{IsPartAt}
use Rattle.gv_certnodes.specs.Places.{IsBefore}
use Rattle.gv_declnodes.specs.declared.generated.script_node.ScriptNode.{ScriptNode}
use Rattle.gv_declnodes.specs.declared.generated.script_node.ScriptNode.TheVariants as node

-- a part of the kind stands there
pub record IsSomeScript (text : List ℕ) (nodes : List Node) (at : ℕ) : Type 0 where
  pub whole : Script
  pub within : at < length nodes
  pub part : IsPartAt text nodes at (POther (PScript whole))

pub record IsScript (text : List ℕ) (nodes : List Node) (limit : ℕ) (books : ℕ) (preds : ℕ) (crash_word : SeenToken) (crash : SeenToken) (root_word : SeenToken) (root : SeenToken) (init : ℕ) (recover : ℕ) (cuts : ℕ) (ops : ℕ) (procs : ℕ) (whole : Script) : Type 0 where
  pub of_books : List Book
  pub of_preds : List Pred
  pub of_init : Block
  pub of_recover : Block
  pub of_cuts : List Cut
  pub of_ops : List Op
  pub of_procs : List Proc
  pub at_books : IsBefore text nodes limit books (POther (PBooks of_books))
  pub at_preds : IsBefore text nodes limit preds (POther (PPreds of_preds))
  pub at_init : IsBefore text nodes limit init (POther (PBlock of_init))
  pub at_recover : IsBefore text nodes limit recover (POther (PBlock of_recover))
  pub at_cuts : IsBefore text nodes limit cuts (POther (PCuts of_cuts))
  pub at_ops : IsBefore text nodes limit ops (POther (POps of_ops))
  pub at_procs : IsBefore text nodes limit procs (POther (PProcs of_procs))
  pub made : whole ≡ (record { books = of_books; preds = of_preds; crash_word = crash_word; crash = crash; root_word = root_word; root = root; init = of_init; recover = of_recover; cuts = of_cuts; ops = of_ops; procs = of_procs })

-- what is told of a node before `limit` is so of this part
abbrev pub IsScriptNode : List ℕ → List Node → ℕ → ScriptNode → Script → Type 0
IsScriptNode text nodes limit (node.Script books preds crash_word crash root_word root init recover cuts ops procs) whole = IsScript text nodes limit books preds crash_word crash root_word root init recover cuts ops procs whole
