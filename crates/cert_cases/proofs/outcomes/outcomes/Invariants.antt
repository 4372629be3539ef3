use Rattle.gv_terms.specs.Store.{AreIn}
use Rattle.cert_cases.proofs.outcomes.outcomes.Given as goal

abbrev pub invariant-loop-i : goal.invariant-loop-i
invariant-loop-i l = record {
  within : AreIn l.store l.facts;
}
