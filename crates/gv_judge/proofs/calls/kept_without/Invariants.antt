use Rattle.std.proofs.Common.{◌≡◌, ◌++◌, length}
use Rattle.gv_judge.specs.Calls.{kept_without}
use Rattle.gv_judge.proofs.calls.kept_without.Given as goal

abbrev pub invariant-loop-left : goal.invariant-loop-left
invariant-loop-left l = l.out.items ++ kept_without l.fn.number l.left ≡ kept_without l.fn.number l.fn.calls

abbrev pub decreases-loop-left : goal.decreases-loop-left
decreases-loop-left l = length l.left
