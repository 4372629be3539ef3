-- The turns that are left, from the total so far, give the Sum.
use Rattle.std.proofs.Common.{◌≡◌, fold, length}
use Rattle.gv_lang.specs.Plain.{expr_of}
use Rattle.gv_smallprogram.specs.Program.{turn_expr, sum_expr}
use Rattle.gv_smallprogram.proofs.program.sum_expr.Given as goal

abbrev pub invariant-loop-left : goal.invariant-loop-left
invariant-loop-left l = fold turn_expr (expr_of l.total) l.left ≡ sum_expr l.fn.op

abbrev pub decreases-loop-left : goal.decreases-loop-left
decreases-loop-left l = length l.left
