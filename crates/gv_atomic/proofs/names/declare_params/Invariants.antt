use Rattle.std.proofs.Common.{◌≡◌, ◌++◌, true, length}
use Rattle.gv_atomic.specs.Typed as typed
use Rattle.gv_atomic.proofs.names.declare_params.Given as goal

abbrev pub invariant-loop-left : goal.invariant-loop-left
invariant-loop-left l = record {
  names : typed.are_names (typed.names_of (l.fields ++ l.own)) ≡ true;
  whole : l.own ++ l.left ≡ l.fn.own ++ l.fn.params;
}

abbrev pub decreases-loop-left : goal.decreases-loop-left
decreases-loop-left l = length l.left
