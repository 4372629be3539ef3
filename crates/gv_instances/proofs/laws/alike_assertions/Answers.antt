use Rattle.gv_instances.proofs.Alike.{alike_law}
use Rattle.gv_instances.proofs.laws.alike_assertions.Goals as goal

pub returns : goal.returns
returns c = alike_law
