use Rattle.gv_acting.proofs.Sharing.{sharing_law}
use Rattle.gv_acting.proofs.laws.sharing_sound.Goals as goal

pub returns : goal.returns
returns c = sharing_law
