use Rattle.std.proofs.Common.{◌≡◌, ◌++◌, length}
use Rattle.gv_pointlines.specs.PointLines.{numbers_text}
use Rattle.gv_pointlines.proofs.lines.push_numbers.Given as goal

abbrev pub invariant-loop-rest : goal.invariant-loop-rest
invariant-loop-rest l = l.out.items ++ numbers_text l.rest ≡ l.initial.out.items ++ numbers_text l.fn.ks

abbrev pub decreases-loop-rest : goal.decreases-loop-rest
decreases-loop-rest l = length l.rest
