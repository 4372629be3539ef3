use Rattle.std.proofs.Common.{◌≡◌, length}
use Rattle.gv_linear.specs.Columns.{AreColumnsTo}
use Rattle.gv_linear.proofs.window.sum_columns.Given as goal

abbrev pub invariant-loop-i : goal.invariant-loop-i
invariant-loop-i l = AreColumnsTo l.rows l.factors l.unknowns l.from l.i l.sums
