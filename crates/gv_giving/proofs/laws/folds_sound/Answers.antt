use Rattle.gv_giving.proofs.Folding.{folds_law}
use Rattle.gv_giving.proofs.laws.folds_sound.Goals as goal

pub returns : goal.returns
returns c = folds_law
