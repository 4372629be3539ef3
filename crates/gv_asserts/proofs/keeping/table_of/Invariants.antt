use Rattle.std.proofs.Common.{◌≡◌, length}
use Rattle.gv_asserts.specs.Kinds.{table_on, table_of}
use Rattle.gv_asserts.proofs.keeping.table_of.Given as goal

abbrev pub invariant-loop-left : goal.invariant-loop-left
invariant-loop-left l = table_on l.table.items l.left ≡ table_of l.fn.preds

abbrev pub decreases-loop-left : goal.decreases-loop-left
decreases-loop-left l = length l.left
