use Rattle.std.proofs.Common.{◌≡◌, [], drop}
use Rattle.gv_terms.specs.Store.{trees_at, AreIn, Grows}
use Rattle.gv_axioms.specs.Steps.{run}
use Rattle.gv_axioms.proofs.building.build.Given as goal

abbrev pub invariant-loop-i : goal.invariant-loop-i
invariant-loop-i l = record {
  grows : Grows l.fn.store l.store;
  within : AreIn l.store l.stack.items;
  stand : run (trees_at l.fn.store l.parts) (drop l.i l.steps) (trees_at l.store l.stack.items) ≡ run (trees_at l.fn.store l.parts) l.steps [];
}
