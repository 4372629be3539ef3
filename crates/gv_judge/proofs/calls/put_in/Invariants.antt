use Rattle.std.proofs.Common.{◌≡◌, ◌++◌, length}
use Rattle.std.specs.Prelude.{if◌then◌else◌}
use Rattle.gv_judge.specs.Calls.{put_in}
use Rattle.gv_judge.proofs.calls.put_in.Given as goal

abbrev pub invariant-loop-left : goal.invariant-loop-left
invariant-loop-left l = l.out.items ++ (if l.is_put then l.left else put_in l.fn.new l.left) ≡ put_in l.fn.new l.fn.calls

abbrev pub decreases-loop-left : goal.decreases-loop-left
decreases-loop-left l = length l.left
