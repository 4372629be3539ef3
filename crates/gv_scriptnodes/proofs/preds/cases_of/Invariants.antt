use Rattle.std.specs.Prelude.{◌<◌, List, length}
use Rattle.gv_termread.specs.declared.generated.term_acts.Part.TheVariants.{Other as POther}
use Rattle.gv_scriptsyntax.specs.declared.tree.Case.{Case}
use Rattle.gv_scriptsyntax.specs.declared.generated.script_acts.ScriptPart.TheVariants.{Cases as PCases}
use Rattle.gv_scriptsyntax.specs.Nodes.{IsPartAt}
use Rattle.gv_scriptnames.specs.Outlines.{of_case}
use Rattle.gv_scriptnodes.specs.Lasts.{IsLeft}
use Rattle.gv_scriptnodes.proofs.preds.cases_of.Given as goal

-- those that were taken follow those that are left
abbrev pub invariant-loop-alloc : goal.invariant-loop-alloc
invariant-loop-alloc l = record {
  within : l.place < length l.nodes;
  left : (whole : List Case) → IsPartAt l.text l.nodes l.at (POther (PCases whole)) → IsLeft (λ place cases. IsPartAt l.text l.nodes place (POther (PCases cases))) of_case l.place l.cases.items whole;
}

abbrev pub decreases-loop-alloc : goal.decreases-loop-alloc
decreases-loop-alloc l = l.place
