use Rattle.gv_invariant.proofs.Crashing.{crash_law}
use Rattle.gv_invariant.proofs.laws.crashes_are_survived.Goals as goal

pub returns : goal.returns
returns c = crash_law
