use Rattle.gv_ranges.proofs.Ranges.{joins_law}
use Rattle.gv_ranges.proofs.laws.joins_sound.Goals as goal

pub returns : goal.returns
returns c = joins_law
