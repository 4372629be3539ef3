use Rattle.gv_ranges.proofs.Ranges.{empty_law}
use Rattle.gv_ranges.proofs.laws.empty_ranges_sound.Goals as goal

pub returns : goal.returns
returns c = empty_law
