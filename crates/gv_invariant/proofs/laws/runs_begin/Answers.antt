use Rattle.gv_invariant.proofs.Crashing.{first_law}
use Rattle.gv_invariant.proofs.laws.runs_begin.Goals as goal

pub returns : goal.returns
returns c = first_law
