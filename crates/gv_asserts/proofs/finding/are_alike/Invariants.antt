use Rattle.std.proofs.Common.{◌≡◌, length, drop}
use Rattle.gv_terms.specs.Store.{trees_at}
use Rattle.gv_asserts.specs.Keys.{trees_eq}
use Rattle.gv_asserts.proofs.finding.are_alike.Given as goal

abbrev pub invariant-loop-i : goal.invariant-loop-i
invariant-loop-i l = record {
  as_many : length l.terms ≡ length l.others;
  behind : trees_eq (trees_at l.store (drop l.i l.others)) (trees_at l.store (drop l.i l.terms)) ≡ trees_eq (trees_at l.store l.others) (trees_at l.store l.terms);
}
