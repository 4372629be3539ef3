use Rattle.gv_rules.proofs.Moves.{opens_law}
use Rattle.gv_rules.proofs.laws.opens_sound.Goals as goal

pub returns : goal.returns
returns c = opens_law
