-- Procs nodes. Made by tools/script_nodes.py from script.grammar: edit that.
use Rattle.std.specs.Prelude.{◌≡◌, ℕ, ◌<◌, List, length, [], ◌∷◌, ◌++◌, Option}
use Rattle.gv_termread.specs.declared.generated.term_acts.Part.TheVariants.{Other as POther}
use Rattle.gv_scriptsyntax.specs.declared.generated.script_acts.ScriptPart.TheVariants.{Block as PBlock, Cuts as PCuts, Items as PItems, MaybeInst as PMaybeInst, Names as PNames, Pars as PPars, Procs as PProcs}
use Rattle.gv_scriptsyntax.specs.declared.tree.Block.{Block}
use Rattle.gv_scriptsyntax.specs.declared.tree.Cut.{Cut}
use Rattle.gv_scriptsyntax.specs.declared.tree.Inst.{Inst}
use Rattle.gv_scriptsyntax.specs.declared.tree.Item.{Item}
use Rattle.gv_scriptsyntax.specs.declared.tree.Par.{Par}
use Rattle.gv_scriptsyntax.specs.declared.tree.Proc.{Proc}
use Rattle.gv_termread.specs.declared.token.SeenToken.{SeenToken}
use Rattle.gv_scriptsyntax.specs.declared.node.Node.{Node}
use Rattle.gv_scriptsyntax.specs.Nodes.{IsPartAt}
use Rattle.gv_certnodes.specs.Places.{IsBefore}
use Rattle.gv_declnodes.specs.declared.generated.procs_node.ProcsNode.{ProcsNode}
use Rattle.gv_declnodes.specs.declared.generated.procs_node.ProcsNode.TheVariants as node

-- a part of the kind stands there
pub record IsSomeProcs (text : List ℕ) (nodes : List Node) (at : ℕ) : Type 0 where
  pub whole : List Proc
  pub within : at < length nodes
  pub part : IsPartAt text nodes at (POther (PProcs whole))

pub record IsProc (text : List ℕ) (nodes : List Node) (limit : ℕ) (procs : ℕ) (name : SeenToken) (own : ℕ) (vars : ℕ) (pre : ℕ) (results : ℕ) (post : ℕ) (block : ℕ) (cuts : ℕ) (whole : List Proc) : Type 0 where
  pub of_procs : List Proc
  pub of_own : Option Inst
  pub of_vars : List Par
  pub of_pre : List Item
  pub of_results : List SeenToken
  pub of_post : List Item
  pub of_block : Block
  pub of_cuts : List Cut
  pub at_procs : IsBefore text nodes limit procs (POther (PProcs of_procs))
  pub at_own : IsBefore text nodes limit own (POther (PMaybeInst of_own))
  pub at_vars : IsBefore text nodes limit vars (POther (PPars of_vars))
  pub at_pre : IsBefore text nodes limit pre (POther (PItems of_pre))
  pub at_results : IsBefore text nodes limit results (POther (PNames of_results))
  pub at_post : IsBefore text nodes limit post (POther (PItems of_post))
  pub at_block : IsBefore text nodes limit block (POther (PBlock of_block))
  pub at_cuts : IsBefore text nodes limit cuts (POther (PCuts of_cuts))
  pub made : whole ≡ (of_procs ++ (record { name = name; own = of_own; vars = of_vars; pre = of_pre; results = of_results; post = of_post; block = of_block; cuts = of_cuts }) ∷ [])

-- what is told of a node before `limit` is so of this part
abbrev pub IsProcsNode : List ℕ → List Node → ℕ → ProcsNode → List Proc → Type 0
IsProcsNode text nodes limit node.NoProcs whole = whole ≡ []
IsProcsNode text nodes limit (node.Proc procs name own vars pre results post block cuts) whole = IsProc text nodes limit procs name own vars pre results post block cuts whole
