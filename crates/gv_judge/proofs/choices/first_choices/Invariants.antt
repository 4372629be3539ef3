use Rattle.std.proofs.Common.{◌≡◌, ◌++◌, length}
use Rattle.gv_judge.specs.Later.{first_list}
use Rattle.gv_judge.proofs.choices.first_choices.Given as goal

abbrev pub invariant-loop-left : goal.invariant-loop-left
invariant-loop-left l = l.choices.items ++ first_list l.left ≡ first_list l.fn.picks

abbrev pub decreases-loop-left : goal.decreases-loop-left
decreases-loop-left l = length l.left
