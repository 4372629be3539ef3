use Rattle.gv_acting.proofs.Booting.{boots_law}
use Rattle.gv_acting.proofs.laws.boots_sound.Goals as goal

pub returns : goal.returns
returns c = boots_law
