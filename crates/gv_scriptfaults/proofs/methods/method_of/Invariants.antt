use Rattle.std.proofs.Common.{◌≡◌, length}
use Rattle.gv_lang.specs.WellShaped.{after_dot}
use Rattle.gv_scriptfaults.proofs.methods.method_of.Given as goal

abbrev pub invariant-loop-rest : goal.invariant-loop-rest
invariant-loop-rest l = after_dot l.rest ≡ after_dot l.initial.rest

abbrev pub decreases-loop-rest : goal.decreases-loop-rest
decreases-loop-rest l = length l.rest
