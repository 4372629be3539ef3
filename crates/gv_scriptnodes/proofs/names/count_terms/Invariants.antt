use Rattle.std.specs.Prelude.{◌<◌, ◌≤◌, ◌+◌, List, length}
use Rattle.gv_termread.specs.declared.generated.term_acts.Part.TheVariants.{Other as POther}
use Rattle.gv_termread.specs.declared.placed.PlacedTerm.{PlacedTerm}
use Rattle.gv_scriptsyntax.specs.declared.generated.script_acts.ScriptPart.TheVariants.{Terms as PTerms}
use Rattle.gv_scriptsyntax.specs.Nodes.{IsPartAt}
use Rattle.gv_scriptnodes.specs.Lasts.{IsCounted}
use Rattle.gv_scriptnodes.proofs.names.count_terms.Given as goal

-- those that were counted follow those that are left; each took a place
abbrev pub invariant-loop-before : goal.invariant-loop-before
invariant-loop-before l = record {
  within : l.place < length l.nodes;
  room : l.count + l.place ≤ l.at;
  left : (whole : List PlacedTerm) → IsPartAt l.text l.nodes l.at (POther (PTerms whole))
      → IsCounted (λ place terms. IsPartAt l.text l.nodes place (POther (PTerms terms))) l.place l.count whole;
}

abbrev pub decreases-loop-before : goal.decreases-loop-before
decreases-loop-before l = l.place
