-- The locals so far and those of the parameters that are left are all; the count is that of the locals so far.
use Rattle.std.proofs.Common.{◌≡◌, ◌+◌, [], ◌++◌, suc, length}
use Rattle.gv_smallprogram.specs.Program.{param_locals, method_locals, param_count}
use Rattle.gv_smallprogram.proofs.program.method_locals.Given as goal

abbrev pub invariant-loop-left : goal.invariant-loop-left
invariant-loop-left l = record {
  locals : l.locals.items ++ param_locals (suc l.count) l.left ≡ method_locals [] l.fn.op;
  count : l.count + length l.left ≡ param_count l.fn.op;
}

abbrev pub decreases-loop-left : goal.decreases-loop-left
decreases-loop-left l = length l.left
