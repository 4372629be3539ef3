use Rattle.std.proofs.Common.{◌≡◌, ◌++◌, length}
use Rattle.gv_judge.specs.Calls.{taken_out}
use Rattle.gv_judge.proofs.calls.taken_out.Given as goal

abbrev pub invariant-loop-left : goal.invariant-loop-left
invariant-loop-left l = l.out.items ++ taken_out l.fn.number l.left ≡ taken_out l.fn.number l.fn.calls

abbrev pub decreases-loop-left : goal.decreases-loop-left
decreases-loop-left l = length l.left
