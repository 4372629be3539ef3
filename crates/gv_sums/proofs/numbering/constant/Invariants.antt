use Rattle.std.proofs.Common.{◌≡◌, take}
use Rattle.gv_sums.specs.Reading.{constant_in}
use Rattle.gv_sums.proofs.numbering.constant.Given as goal

abbrev pub invariant-loop-i : goal.invariant-loop-i
invariant-loop-i l = l.sum ≡ constant_in (take l.i l.summands)
