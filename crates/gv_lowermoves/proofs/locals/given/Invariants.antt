use Rattle.std.proofs.Common.{length}
use Rattle.gv_lowermoves.proofs.Givens.{Giving}
use Rattle.gv_lowermoves.proofs.locals.given.Given as goal

abbrev pub invariant-loop-left : goal.invariant-loop-left
invariant-loop-left g l = Giving (g.P.Places.context l.places) l.fn.draft l.targets l.left l.locals.items l.draft

abbrev pub decreases-loop-left : goal.decreases-loop-left
decreases-loop-left g l = length l.left
