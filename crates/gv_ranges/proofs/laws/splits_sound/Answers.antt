use Rattle.gv_ranges.proofs.Ranges.{splits_law}
use Rattle.gv_ranges.proofs.laws.splits_sound.Goals as goal

pub returns : goal.returns
returns c = splits_law
