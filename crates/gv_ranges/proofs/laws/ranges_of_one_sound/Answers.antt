use Rattle.gv_ranges.proofs.Ranges.{one_law}
use Rattle.gv_ranges.proofs.laws.ranges_of_one_sound.Goals as goal

pub returns : goal.returns
returns c = one_law
