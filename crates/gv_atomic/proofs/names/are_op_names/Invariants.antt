use Rattle.std.proofs.Common.{◌≡◌, ◌++◌, true, length, map}
use Rattle.gv_atomic.specs.Typed as typed
use Rattle.gv_atomic.proofs.names.are_op_names.Given as goal

abbrev pub invariant-loop-left : goal.invariant-loop-left
invariant-loop-left l = record {
  names : typed.are_names (typed.names_of l.names) ≡ true;
  whole : typed.names_of l.names ++ map (λ o. o.name) l.left ≡ map (λ o. o.name) l.fn.ops;
}

abbrev pub decreases-loop-left : goal.decreases-loop-left
decreases-loop-left l = length l.left
