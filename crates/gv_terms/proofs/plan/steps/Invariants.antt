use Rattle.gv_terms.specs.Evaluation.{awaited}
use Rattle.gv_terms.proofs.Planned.{IsPlanned, lowest}
use Rattle.gv_terms.proofs.plan.steps.Given as goal

abbrev pub invariant-loop-node : goal.invariant-loop-node
invariant-loop-node l = IsPlanned l.nodes l.root l.steps.items (awaited l.waiting)

abbrev pub decreases-loop-node : goal.decreases-loop-node
decreases-loop-node l = lowest l.root l.steps.items
