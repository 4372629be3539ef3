use Rattle.std.proofs.Common.{length}
use Rattle.gv_judge.proofs.RepeatLaws.{HasTold}
use Rattle.gv_judge.proofs.repeats.repeats.Given as goal

abbrev pub invariant-loop-left : goal.invariant-loop-left
invariant-loop-left l = HasTold l.fn.history l.left l.seen.keys l.told.items

abbrev pub decreases-loop-left : goal.decreases-loop-left
decreases-loop-left l = length l.left
