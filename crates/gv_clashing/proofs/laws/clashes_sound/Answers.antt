use Rattle.gv_clashing.proofs.Clashing.{clashes_law}
use Rattle.gv_clashing.proofs.laws.clashes_sound.Goals as goal

pub returns : goal.returns
returns c = clashes_law
