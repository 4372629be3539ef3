use Rattle.std.proofs.Common.{◌≡◌, drop}
use Rattle.gv_terms.specs.Store.{trees_at, AreIn}
use Rattle.gv_certs.specs.Proving.{unknowns_in}
use Rattle.gv_sums.specs.Reading.{AreShort}
use Rattle.gv_sums.proofs.unknowns.add_terms.Given as goal

abbrev pub invariant-loop-i : goal.invariant-loop-i
invariant-loop-i l = record {
  within : AreIn l.store l.unknowns.items;
  stand : unknowns_in (trees_at l.store l.sums) (trees_at l.store l.unknowns.items) (trees_at l.store (drop l.i l.terms)) ≡ unknowns_in (trees_at l.store l.sums) (trees_at l.store l.fn.unknowns.items) (trees_at l.store l.terms);
  short : AreShort (trees_at l.store l.sums) (trees_at l.store (drop l.i l.terms)) → AreShort (trees_at l.store l.sums) (trees_at l.store l.terms);
}
