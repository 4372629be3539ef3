use Rattle.std.specs.Prelude.{◌<◌, List, length}
use Rattle.gv_termread.specs.declared.generated.term_acts.Part.TheVariants.{Other as POther}
use Rattle.gv_scriptsyntax.specs.declared.tree.Par.{Par}
use Rattle.gv_scriptsyntax.specs.declared.generated.script_acts.ScriptPart.TheVariants.{Pars as PPars}
use Rattle.gv_scriptsyntax.specs.Nodes.{IsPartAt}
use Rattle.gv_scriptnodes.specs.Lasts.{IsLeft}
use Rattle.gv_scriptnodes.proofs.names.pars_of.Given as goal

-- those that were taken follow those that are left
abbrev pub invariant-loop-item : goal.invariant-loop-item
invariant-loop-item l = record {
  within : l.place < length l.nodes;
  left : (whole : List Par) → IsPartAt l.text l.nodes l.at (POther (PPars whole)) → IsLeft (λ place pars. IsPartAt l.text l.nodes place (POther (PPars pars))) (λ item. item) l.place l.pars.items whole;
}

abbrev pub decreases-loop-item : goal.decreases-loop-item
decreases-loop-item l = l.place
