use Rattle.gv_lockstep.proofs.Ways.{lockstep_law}
use Rattle.gv_lockstep.proofs.laws.lockstep.Goals as goal

pub returns : goal.returns
returns c = lockstep_law
