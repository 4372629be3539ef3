use Rattle.gv_rules.proofs.Moves.{closes_law}
use Rattle.gv_rules.proofs.laws.closes_sound.Goals as goal

pub returns : goal.returns
returns c = closes_law
