use Rattle.gv_instances.proofs.Agreeing.{closed_law}
use Rattle.gv_instances.proofs.laws.closed_terms.Goals as goal

pub returns : goal.returns
returns c = closed_law
