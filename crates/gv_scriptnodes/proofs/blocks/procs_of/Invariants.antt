use Rattle.std.specs.Prelude.{◌<◌, List, length}
use Rattle.gv_termread.specs.declared.generated.term_acts.Part.TheVariants.{Other as POther}
use Rattle.gv_scriptsyntax.specs.declared.tree.Proc.{Proc}
use Rattle.gv_scriptsyntax.specs.declared.generated.script_acts.ScriptPart.TheVariants.{Procs as PProcs}
use Rattle.gv_scriptsyntax.specs.Nodes.{IsPartAt}
use Rattle.gv_scriptnames.specs.Outlines.{of_proc}
use Rattle.gv_scriptnodes.specs.Lasts.{IsLeft}
use Rattle.gv_scriptnodes.proofs.blocks.procs_of.Given as goal

-- those that were taken follow those that are left
abbrev pub invariant-loop-alloc : goal.invariant-loop-alloc
invariant-loop-alloc l = record {
  within : l.place < length l.nodes;
  left : (whole : List Proc) → IsPartAt l.text l.nodes l.at (POther (PProcs whole)) → IsLeft (λ place procs. IsPartAt l.text l.nodes place (POther (PProcs procs))) of_proc l.place l.procs.items whole;
}

abbrev pub decreases-loop-alloc : goal.decreases-loop-alloc
decreases-loop-alloc l = l.place
