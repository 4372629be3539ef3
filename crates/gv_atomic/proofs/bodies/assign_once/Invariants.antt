use Rattle.std.proofs.Common.{◌≡◌, ◌++◌, true, length, nat_eq}
use Rattle.gv_atomic.specs.Typed.{are_distinct}
use Rattle.gv_atomic.proofs.OneByOne.{fields_assigned}
use Rattle.gv_atomic.proofs.bodies.assign_once.Given as goal

abbrev pub invariant-loop-left : goal.invariant-loop-left
invariant-loop-left l = record {
  distinct : are_distinct nat_eq l.assigned.keys ≡ true;
  whole : l.assigned.keys ++ fields_assigned l.left ≡ fields_assigned l.fn.body;
}

abbrev pub decreases-loop-left : goal.decreases-loop-left
decreases-loop-left l = length l.left
