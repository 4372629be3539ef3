use Rattle.std.proofs.Common.{◌≡◌, take}
use Rattle.gv_sums.specs.Reading.{coefficient_in}
use Rattle.gv_sums.proofs.numbering.coefficient.Given as goal

abbrev pub invariant-loop-i : goal.invariant-loop-i
invariant-loop-i l = l.sum ≡ coefficient_in l.unknown (take l.i l.summands)
