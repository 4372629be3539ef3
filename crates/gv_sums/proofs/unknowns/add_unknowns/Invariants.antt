use Rattle.std.proofs.Common.{◌≡◌, drop}
use Rattle.gv_terms.specs.Store.{trees_at, AreIn}
use Rattle.gv_certs.specs.Sums.{with_unknowns}
use Rattle.gv_sums.specs.Reading.{summands_at}
use Rattle.gv_sums.proofs.unknowns.add_unknowns.Given as goal

abbrev pub invariant-loop-i : goal.invariant-loop-i
invariant-loop-i l = record {
  within : AreIn l.store l.unknowns.items;
  stand : with_unknowns (trees_at l.store l.unknowns.items) (summands_at l.store (drop l.i l.summands)) ≡ with_unknowns (trees_at l.store l.fn.unknowns.items) (summands_at l.store l.summands);
}
