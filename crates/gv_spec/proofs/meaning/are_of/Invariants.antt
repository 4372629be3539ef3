use Rattle.std.proofs.Common.{◌≡◌, length}
use Rattle.gv_spec.specs.Atomic.{are_of}
use Rattle.gv_spec.proofs.meaning.are_of.Given as goal

abbrev pub invariant-loop-vars : goal.invariant-loop-vars
invariant-loop-vars l = are_of l.vars l.values ≡ are_of l.fn.vars l.fn.values

abbrev pub decreases-loop-vars : goal.decreases-loop-vars
decreases-loop-vars l = length l.vars
