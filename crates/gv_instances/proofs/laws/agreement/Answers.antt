use Rattle.gv_instances.proofs.Trees.{agreement_law}
use Rattle.gv_instances.proofs.laws.agreement.Goals as goal

pub returns : goal.returns
returns c = agreement_law
