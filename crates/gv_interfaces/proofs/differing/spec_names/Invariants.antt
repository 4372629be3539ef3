-- The names so far, and those of the operations that are left, are all.
use Rattle.std.proofs.Common.{◌≡◌, ◌++◌, length, map}
use Rattle.gv_interfaces.proofs.differing.spec_names.Given as goal

abbrev pub invariant-loop-left : goal.invariant-loop-left
invariant-loop-left l = l.names.items ++ map (λ op. op.name) l.left ≡ map (λ op. op.name) l.fn.ops

abbrev pub decreases-loop-left : goal.decreases-loop-left
decreases-loop-left l = length l.left
