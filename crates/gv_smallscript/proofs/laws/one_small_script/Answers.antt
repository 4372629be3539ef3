use Rattle.gv_smallscript.proofs.Once.{one_small}
use Rattle.gv_smallscript.proofs.laws.one_small_script.Goals as goal

pub returns : goal.returns
returns c = one_small
