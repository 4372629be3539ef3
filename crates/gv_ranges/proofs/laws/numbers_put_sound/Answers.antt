use Rattle.gv_ranges.proofs.Ranges.{puts_law}
use Rattle.gv_ranges.proofs.laws.numbers_put_sound.Goals as goal

pub returns : goal.returns
returns c = puts_law
