use Rattle.gv_terms.specs.Store.{AreIn}
use Rattle.cert_cases.proofs.facts.facts_of.Given as goal

abbrev pub invariant-loop-part : goal.invariant-loop-part
invariant-loop-part l = record {
  within : AreIn l.store l.facts;
}
