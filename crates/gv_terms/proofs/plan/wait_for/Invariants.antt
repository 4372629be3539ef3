use Rattle.gv_terms.specs.Evaluation.{awaited}
use Rattle.gv_terms.proofs.Planned.{Awaiting}
use Rattle.gv_terms.proofs.plan.wait_for.Given as goal

abbrev pub invariant-loop-part : goal.invariant-loop-part
invariant-loop-part l = Awaiting l.node (awaited l.fn.waiting) (awaited l.waiting) l.parts l.part-index
