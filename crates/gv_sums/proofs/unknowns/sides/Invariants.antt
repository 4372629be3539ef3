use Rattle.std.proofs.Common.{◌≡◌, take}
use Rattle.gv_sums.specs.Reading.{sides_in}
use Rattle.gv_sums.proofs.unknowns.sides.Given as goal

abbrev pub invariant-loop-i : goal.invariant-loop-i
invariant-loop-i l = l.terms.items ≡ sides_in (take l.i l.comparisons)
