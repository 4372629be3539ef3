use Rattle.gv_terms.specs.Store.{AreIn}
use Rattle.cert_bench.proofs.given.Given as goal

abbrev pub invariant-loop-number : goal.invariant-loop-number
invariant-loop-number l = AreIn l.store l.facts
