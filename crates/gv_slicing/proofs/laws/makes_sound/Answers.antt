use Rattle.gv_slicing.proofs.SliceMakes.{makes_law}
use Rattle.gv_slicing.proofs.laws.makes_sound.Goals as goal

pub returns : goal.returns
returns c = makes_law
