use Rattle.std.proofs.Common.{drop}
use Rattle.gv_terms.specs.Store.{trees_at, Grows}
use Rattle.gv_certs.specs.declared.fault.RuleFault.{RuleFault}
use Rattle.gv_certs.specs.Proving.{AllHold}
use Rattle.gv_side.specs.Telling.{IsFault}
use Rattle.gv_sums.proofs.Parts.{sums_asked}
use Rattle.gv_sums.proofs.whole_sums.ask_sums.Given as goal

abbrev pub invariant-loop-i : goal.invariant-loop-i
invariant-loop-i l = record {
  grows : Grows l.fn.store l.store;
  holds : AllHold (sums_asked (trees_at l.fn.store l.facts) l.fn.store (drop l.i l.sums)) → AllHold (sums_asked (trees_at l.fn.store l.facts) l.fn.store l.sums);
  fault : (e : RuleFault) → IsFault (sums_asked (trees_at l.fn.store l.facts) l.fn.store (drop l.i l.sums)) e → IsFault (sums_asked (trees_at l.fn.store l.facts) l.fn.store l.sums) e;
}
