use Rattle.gv_assertions.proofs.Lists.{list_laws}
use Rattle.gv_assertions.proofs.laws.list_laws.Goals as goal

pub returns : goal.returns
returns c = list_laws
