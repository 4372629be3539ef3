use Rattle.std.proofs.Common.{◌+◌, ◌*◌}
use Rattle.gv_lowerops.proofs.operands.+operands.Given as goal

abbrev pub decreases-tail_at : goal.decreases-tail_at
decreases-tail_at g l = 4 * l.at

abbrev pub decreases-read_at : goal.decreases-read_at
decreases-read_at g l = 4 * l.at + 1

abbrev pub decreases-high_at : goal.decreases-high_at
decreases-high_at g l = 4 * l.at + 2

abbrev pub decreases-right_at : goal.decreases-right_at
decreases-right_at g l = 4 * l.at + 2
