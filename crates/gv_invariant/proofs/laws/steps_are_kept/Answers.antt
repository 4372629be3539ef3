use Rattle.gv_invariant.proofs.Turning.{step_law}
use Rattle.gv_invariant.proofs.laws.steps_are_kept.Goals as goal

pub returns : goal.returns
returns c = step_law
