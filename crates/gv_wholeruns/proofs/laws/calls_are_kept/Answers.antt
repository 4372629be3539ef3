use Rattle.gv_wholeruns.proofs.Starting.{call_law}
use Rattle.gv_wholeruns.proofs.laws.calls_are_kept.Goals as goal

pub returns : goal.returns
returns c = call_law
