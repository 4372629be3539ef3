-- What was found so far, and what the nodes that are left begin, is all.
use Rattle.std.proofs.Common.{◌≡◌, ◌++◌, false, length}
use Rattle.gv_scriptplaces.specs.Begun.{begun}
use Rattle.gv_scriptplaces.proofs.numbers.add_all.Given as goal

abbrev pub invariant-loop-left : goal.invariant-loop-left
invariant-loop-left l = l.starts.items ++ begun l.behind l.left ≡ l.initial.starts.items ++ begun false l.fn.nodes

abbrev pub decreases-loop-left : goal.decreases-loop-left
decreases-loop-left l = length l.left
