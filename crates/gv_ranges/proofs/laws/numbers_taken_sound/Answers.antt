use Rattle.gv_ranges.proofs.Ranges.{takes_law}
use Rattle.gv_ranges.proofs.laws.numbers_taken_sound.Goals as goal

pub returns : goal.returns
returns c = takes_law
