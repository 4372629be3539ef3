use Rattle.gv_giving.proofs.Folding.{unfolds_law}
use Rattle.gv_giving.proofs.laws.unfolds_sound.Goals as goal

pub returns : goal.returns
returns c = unfolds_law
