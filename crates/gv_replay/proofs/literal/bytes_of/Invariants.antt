use Rattle.std.proofs.Common.{◌≡◌, ◌++◌, length}
use Rattle.gv_replay.specs.Literals.{bytes_of}
use Rattle.gv_replay.proofs.literal.bytes_of.Given as goal

abbrev pub invariant-loop-left : goal.invariant-loop-left
invariant-loop-left l = l.bytes.items ++ bytes_of l.left ≡ bytes_of l.fn.digits

abbrev pub decreases-loop-left : goal.decreases-loop-left
decreases-loop-left l = length l.left
