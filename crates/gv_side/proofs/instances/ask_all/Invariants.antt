use Rattle.std.proofs.Common.{drop}
use Rattle.gv_terms.specs.Store.{trees_at}
use Rattle.gv_certs.specs.declared.fault.RuleFault.{RuleFault}
use Rattle.gv_certs.specs.Proving.{AllHold}
use Rattle.gv_side.specs.Telling.{IsFault}
use Rattle.gv_side.proofs.Lists.{asked}
use Rattle.gv_side.proofs.instances.ask_all.Given as goal

abbrev pub invariant-loop-i : goal.invariant-loop-i
invariant-loop-i l = record {
  holds : AllHold (asked (trees_at l.store l.facts) l.store (drop l.i l.formulas)) → AllHold (asked (trees_at l.store l.facts) l.store l.formulas);
  fault : (e : RuleFault) → IsFault (asked (trees_at l.store l.facts) l.store (drop l.i l.formulas)) e → IsFault (asked (trees_at l.store l.facts) l.store l.formulas) e;
}
