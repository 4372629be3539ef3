use Rattle.std.proofs.Common.{◌≡◌, length}
use Rattle.gv_lang.specs.Plain.{body_of}
use Rattle.gv_lang.specs.Shape.{ends_in_continue}
use Rattle.gv_lang.proofs.shape.ends_in_continue.Given as goal

abbrev pub invariant-loop-rest : goal.invariant-loop-rest
invariant-loop-rest l = ends_in_continue (body_of l.rest) ≡ ends_in_continue (body_of l.initial.rest)

abbrev pub decreases-loop-rest : goal.decreases-loop-rest
decreases-loop-rest l = length l.rest
