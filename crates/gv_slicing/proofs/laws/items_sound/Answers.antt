use Rattle.gv_slicing.proofs.Items.{items_law}
use Rattle.gv_slicing.proofs.laws.items_sound.Goals as goal

pub returns : goal.returns
returns c = items_law
