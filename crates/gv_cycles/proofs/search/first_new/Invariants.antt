use Rattle.std.proofs.Common.{length, ◌-◌}
use Rattle.gv_cycles.specs.Search.{IsPassed}
use Rattle.gv_cycles.proofs.search.first_new.Given as goal

abbrev pub invariant-loop-at : goal.invariant-loop-at
invariant-loop-at l = IsPassed l.is_seen l.row l.from l.at

abbrev pub decreases-loop-at : goal.decreases-loop-at
decreases-loop-at l = length l.row - l.at
