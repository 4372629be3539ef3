use Rattle.gv_instances.proofs.Agreeing.{same_stand}
use Rattle.gv_instances.proofs.laws.assertion_agreement.Goals as goal

pub returns : goal.returns
returns c = same_stand
