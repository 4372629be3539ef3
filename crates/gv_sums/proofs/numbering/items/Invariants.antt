use Rattle.std.proofs.Common.{◌≤◌, ◌-◌}
use Rattle.gv_sums.specs.Reading.{AreItems}
use Rattle.gv_sums.proofs.numbering.items.Given as goal

abbrev pub invariant-loop-unknown : goal.invariant-loop-unknown
invariant-loop-unknown l = record {
  within : l.unknown ≤ l.unknowns;
  stand : AreItems l.unknown l.summands l.items.items;
}

abbrev pub decreases-loop-unknown : goal.decreases-loop-unknown
decreases-loop-unknown l = l.unknowns - l.unknown
