use Rattle.std.proofs.Common.{◌≡◌, ◌++◌, Some, drop}
use Rattle.gv_terms.specs.Store.{trees_at, AreIn, Grows}
use Rattle.gv_axioms.specs.Filling.{with_some}
use Rattle.gv_axioms.specs.Steps.{asked_by}
use Rattle.gv_axioms.proofs.instances.asked.Given as goal

abbrev pub invariant-loop-i : goal.invariant-loop-i
invariant-loop-i l = record {
  grows : Grows l.fn.store l.store;
  within : AreIn l.store l.terms.items;
  stand : asked_by (trees_at l.fn.store l.parts) l.premises ≡ with_some (asked_by (trees_at l.fn.store l.parts) (drop l.i l.premises)) (λ us. Some (trees_at l.store l.terms.items ++ us));
}
