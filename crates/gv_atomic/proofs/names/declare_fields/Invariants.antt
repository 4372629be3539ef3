use Rattle.std.proofs.Common.{◌≡◌, ◌++◌, true, length, map}
use Rattle.gv_atomic.specs.Typed as typed
use Rattle.gv_atomic.proofs.names.declare_fields.Given as goal

abbrev pub invariant-loop-left : goal.invariant-loop-left
invariant-loop-left l = record {
  names : typed.are_names (typed.names_of l.own) ≡ true;
  whole : l.own ++ map typed.var_of l.left ≡ l.fn.own ++ map typed.var_of l.fn.fields;
}

abbrev pub decreases-loop-left : goal.decreases-loop-left
decreases-loop-left l = length l.left
