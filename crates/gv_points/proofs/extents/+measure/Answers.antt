use Rattle.std.proofs.Common.{rules}
use Rattle.gv_points.proofs.Measured.{measured_if, measured_loop}
use Rattle.gv_points.proofs.extents.+measure.Goals as goal

pub measure_command-returns-in_ok-whole-in-If-clause-extents :
    goal.measure_command-returns-in_ok-whole-in-If-clause-extents
measure_command-returns-in_ok-whole-in-If-clause-extents t c =
    measured_if _ _ _ _ _ _ _ _ c.len-at.result c.in_ok-first-in-If.first c.in_ok-whole-in-If.field-0 c.in-If.ensures
    c.in_ok-push.ensures.items c.in_ok-first-in-If.ensures.extents c.in_ok-whole-in-If.ensures.extents (search rules) (search rules) (search rules)

pub measure_command-returns-in_ok-first-in-Loop-clause-extents :
    goal.measure_command-returns-in_ok-first-in-Loop-clause-extents
measure_command-returns-in_ok-first-in-Loop-clause-extents t c =
    measured_loop _ _ _ _ _ _ c.len-at.result c.in_ok-first-in-Loop.first c.in-Loop.ensures
    c.in_ok-push.ensures.items c.in_ok-first-in-Loop.ensures.extents (search rules) (search rules)
