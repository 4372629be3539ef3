use Rattle.std.proofs.Common.{◌++◌}
use Rattle.gv_atomic.proofs.TreeParts.{weight_of}
use Rattle.gv_atomic.proofs.OpenTerms.{IsOpen}
use Rattle.gv_atomic.proofs.closing.is_closed.Given as goal

abbrev pub invariant-loop-node : goal.invariant-loop-node
invariant-loop-node l = IsOpen l.store (l.fields ++ l.own) l.number l.fn.t.id l.marks.items l.left.items

abbrev pub decreases-loop-node : goal.decreases-loop-node
decreases-loop-node l = weight_of l.store l.left.items
