use Rattle.gv_clashing.proofs.Clashing.{agrees_law}
use Rattle.gv_clashing.proofs.laws.agrees_sound.Goals as goal

pub returns : goal.returns
returns c = agrees_law
