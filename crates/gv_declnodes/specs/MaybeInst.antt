-- MaybeInst nodes. Made by tools/script_nodes.py from script.grammar: edit that.
use Rattle.std.specs.Prelude.{◌≡◌, ℕ, ◌<◌, List, length, Some, None, Option}
use Rattle.gv_termread.specs.declared.generated.term_acts.Part.TheVariants.{Other as POther}
use Rattle.gv_scriptsyntax.specs.declared.generated.script_acts.ScriptPart.TheVariants.{Inst as PInst, MaybeInst as PMaybeInst}
use Rattle.gv_scriptsyntax.specs.declared.tree.Inst.{Inst}
use Rattle.gv_scriptsyntax.specs.declared.node.Node.{Node}
use Rattle.gv_scriptsyntax.specs.Nodes.{IsPartAt}
use Rattle.gv_certnodes.specs.Places.{IsBefore}
use Rattle.gv_declnodes.specs.declared.generated.maybe_inst_node.MaybeInstNode.{MaybeInstNode}
use Rattle.gv_declnodes.specs.declared.generated.maybe_inst_node.MaybeInstNode.TheVariants as node

-- a part of the kind stands there
pub record IsSomeMaybeInst (text : List ℕ) (nodes : List Node) (at : ℕ) : Type 0 where
  pub whole : Option Inst
  pub within : at < length nodes
  pub part : IsPartAt text nodes at (POther (PMaybeInst whole))

pub record IsOwn (text : List ℕ) (nodes : List Node) (limit : ℕ) (inst : ℕ) (whole : Option Inst) : Type 0 where
  pub of_inst : Inst
  pub at_inst : IsBefore text nodes limit inst (POther (PInst of_inst))
  pub made : whole ≡ (Some of_inst)

-- what is told of a node before `limit` is so of this part
abbrev pub IsMaybeInstNode : List ℕ → List Node → ℕ → MaybeInstNode → Option Inst → Type 0
IsMaybeInstNode text nodes limit node.NoOwn whole = whole ≡ None
IsMaybeInstNode text nodes limit (node.Own inst) whole = IsOwn text nodes limit inst whole
