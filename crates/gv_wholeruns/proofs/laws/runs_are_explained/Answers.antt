use Rattle.gv_wholeruns.proofs.Running.{run_law}
use Rattle.gv_wholeruns.proofs.laws.runs_are_explained.Goals as goal

pub returns : goal.returns
returns c = run_law
