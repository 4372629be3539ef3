use Rattle.gv_instances.proofs.Assertions.{assertions_law}
use Rattle.gv_instances.proofs.laws.put_in_assertions.Goals as goal

pub returns : goal.returns
returns c = assertions_law
