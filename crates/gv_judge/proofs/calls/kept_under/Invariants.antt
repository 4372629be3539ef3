use Rattle.std.proofs.Common.{◌≡◌, length}
use Rattle.gv_judge.specs.Calls.{kept_under}
use Rattle.gv_judge.proofs.calls.kept_under.Given as goal

abbrev pub invariant-loop-left : goal.invariant-loop-left
invariant-loop-left l = kept_under l.left l.fn.number ≡ kept_under l.fn.calls l.fn.number

abbrev pub decreases-loop-left : goal.decreases-loop-left
decreases-loop-left l = length l.left
