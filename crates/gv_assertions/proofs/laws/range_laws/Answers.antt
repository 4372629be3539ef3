use Rattle.gv_assertions.proofs.Ranges.{range_laws}
use Rattle.gv_assertions.proofs.laws.range_laws.Goals as goal

pub returns : goal.returns
returns c = range_laws
