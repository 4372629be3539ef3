use Rattle.gv_terms.specs.Store.{AreIn}
use Rattle.gv_terms_tests.proofs.wrong_counts.variables.Given as goal

abbrev pub invariant-loop-i : goal.invariant-loop-i
invariant-loop-i l = AreIn l.store l.terms.items
