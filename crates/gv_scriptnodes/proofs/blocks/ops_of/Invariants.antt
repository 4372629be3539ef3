use Rattle.std.specs.Prelude.{◌<◌, List, length}
use Rattle.gv_termread.specs.declared.generated.term_acts.Part.TheVariants.{Other as POther}
use Rattle.gv_scriptsyntax.specs.declared.tree.Op.{Op}
use Rattle.gv_scriptsyntax.specs.declared.generated.script_acts.ScriptPart.TheVariants.{Ops as POps}
use Rattle.gv_scriptsyntax.specs.Nodes.{IsPartAt}
use Rattle.gv_scriptnames.specs.Outlines.{of_op}
use Rattle.gv_scriptnodes.specs.Lasts.{IsLeft}
use Rattle.gv_scriptnodes.proofs.blocks.ops_of.Given as goal

-- those that were taken follow those that are left
abbrev pub invariant-loop-alloc : goal.invariant-loop-alloc
invariant-loop-alloc l = record {
  within : l.place < length l.nodes;
  left : (whole : List Op) → IsPartAt l.text l.nodes l.at (POther (POps whole)) → IsLeft (λ place ops. IsPartAt l.text l.nodes place (POther (POps ops))) of_op l.place l.ops.items whole;
}

abbrev pub decreases-loop-alloc : goal.decreases-loop-alloc
decreases-loop-alloc l = l.place
