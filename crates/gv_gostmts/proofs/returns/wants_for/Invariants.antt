use Rattle.std.proofs.Common.{◌≡◌, ◌++◌, length}
use Rattle.gv_gotypes.specs.Statements.{wanted}
use Rattle.gv_gosimple.specs.Lefts.{wants_of}
use Rattle.gv_gostmts.proofs.returns.wants_for.Given as goal

abbrev pub invariant-loop-left : goal.invariant-loop-left
invariant-loop-left l = wants_of (wanted l.kinds) ≡ l.wants.items ++ wants_of (wanted l.left)

abbrev pub decreases-loop-left : goal.decreases-loop-left
decreases-loop-left l = length l.left
