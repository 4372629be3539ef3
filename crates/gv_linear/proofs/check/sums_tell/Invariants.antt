use Rattle.std.proofs.Common.{◌-◌}
use Rattle.gv_linear.specs.Answer.{IsSummedTo}
use Rattle.gv_linear.proofs.check.sums_tell.Given as goal

abbrev pub invariant-loop-column : goal.invariant-loop-column
invariant-loop-column l = IsSummedTo l.rows l.factors l.unknowns l.column l.zero

abbrev pub decreases-loop-column : goal.decreases-loop-column
decreases-loop-column l = l.unknowns - l.column
