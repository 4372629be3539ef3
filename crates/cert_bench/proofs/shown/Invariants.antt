use Rattle.gv_terms.specs.Store.{AreIn}
use Rattle.cert_bench.proofs.shown.Given as goal

abbrev pub invariant-loop-at : goal.invariant-loop-at
invariant-loop-at l = AreIn l.store l.facts
