use Rattle.std.proofs.Common.{length}
use Rattle.gv_machine.proofs.Placed.{IsPlacing}
use Rattle.gv_machine.proofs.arguments.place_each.Given as goal

abbrev pub invariant-loop-rest : goal.invariant-loop-rest
invariant-loop-rest l = IsPlacing l.fn.store l.fn.args l.fn.values.items l.store l.rest l.values.items

abbrev pub decreases-loop-rest : goal.decreases-loop-rest
decreases-loop-rest l = length l.rest
