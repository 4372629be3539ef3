use Rattle.std.proofs.Common.{◌≡◌, ◌++◌, length}
use Rattle.gv_pointlines.specs.PointLines.{targets_text}
use Rattle.gv_pointlines.proofs.lines.push_targets.Given as goal

abbrev pub invariant-loop-rest : goal.invariant-loop-rest
invariant-loop-rest l = l.out.items ++ targets_text l.locals l.rest ≡ l.initial.out.items ++ targets_text l.locals l.fn.xs

abbrev pub decreases-loop-rest : goal.decreases-loop-rest
decreases-loop-rest l = length l.rest
