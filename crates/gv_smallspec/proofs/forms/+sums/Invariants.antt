use Rattle.std.proofs.Common.{◌+◌, ◌*◌}
use Rattle.gv_smallspec.proofs.forms.+sums.Given as goal

abbrev pub decreases-sum_of : goal.decreases-sum_of
decreases-sum_of l = 2 * l.term.id + 1

abbrev pub decreases-turned : goal.decreases-turned
decreases-turned l = 2 * l.term.id
