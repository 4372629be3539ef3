use Rattle.gv_ranges.proofs.Ranges.{drops_law}
use Rattle.gv_ranges.proofs.laws.drops_sound.Goals as goal

pub returns : goal.returns
returns c = drops_law
