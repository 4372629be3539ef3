use Rattle.std.proofs.Common.{◌≡◌, length}
use Rattle.gv_machine.specs.Placing.{are_arguments}
use Rattle.gv_machine.proofs.arguments.are_arguments.Given as goal

abbrev pub invariant-loop-rest : goal.invariant-loop-rest
invariant-loop-rest l = are_arguments l.rest ≡ are_arguments l.initial.rest

abbrev pub decreases-loop-rest : goal.decreases-loop-rest
decreases-loop-rest l = length l.rest
