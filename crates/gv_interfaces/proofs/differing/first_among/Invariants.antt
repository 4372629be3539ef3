-- What is found among the names that are left, from the one found so far, is what is found among all.
use Rattle.std.proofs.Common.{◌≡◌, length}
use Rattle.gv_interfaces.specs.Deciding as deciding
use Rattle.gv_interfaces.proofs.differing.first_among.Given as goal

abbrev pub invariant-loop-left : goal.invariant-loop-left
invariant-loop-left l =
    deciding.first_among l.sides.package.now l.sides.spec.now l.first l.left ≡ deciding.first_among l.sides.package.now l.sides.spec.now l.fn.first l.fn.names

abbrev pub decreases-loop-left : goal.decreases-loop-left
decreases-loop-left l = length l.left
