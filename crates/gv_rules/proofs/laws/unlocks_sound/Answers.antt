use Rattle.gv_rules.proofs.Locks.{unlocks_law}
use Rattle.gv_rules.proofs.laws.unlocks_sound.Goals as goal

pub returns : goal.returns
returns c = unlocks_law
