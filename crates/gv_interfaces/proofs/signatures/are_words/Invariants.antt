use Rattle.std.proofs.Common.{◌≡◌, length}
use Rattle.gv_interfaces.specs.Deciding as deciding
use Rattle.gv_interfaces.proofs.signatures.are_words.Given as goal

abbrev pub invariant-loop-left : goal.invariant-loop-left
invariant-loop-left l = deciding.are_words l.left ≡ deciding.are_words l.fn.params

abbrev pub decreases-loop-left : goal.decreases-loop-left
decreases-loop-left l = length l.left
