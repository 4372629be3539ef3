use Rattle.std.proofs.Common.{length}
use Rattle.gv_judge.proofs.LastRaised.{HasCome}
use Rattle.gv_judge.proofs.choices.last_raised.Given as goal

abbrev pub invariant-loop-left : goal.invariant-loop-left
invariant-loop-left l = HasCome l.store l.fn.before.bindings l.fn.picks l.fn.choices l.env.bindings l.left l.others l.at l.last

abbrev pub decreases-loop-left : goal.decreases-loop-left
decreases-loop-left l = length l.left
