use Rattle.std.proofs.Common.{ℕ, ◌<◌, get_or}
use Rattle.gv_linear.specs.declared.row.Row.{Row}
use Rattle.gv_linear.specs.Row.{IsInOrder}
use Rattle.linear_cases.proofs.order.are_in_order.Given as goal

abbrev pub invariant-loop-row : goal.invariant-loop-row
invariant-loop-row l = (k : ℕ) (d : Row) → k < l.row-index → IsInOrder l.unknowns (get_or l.rows k d)
