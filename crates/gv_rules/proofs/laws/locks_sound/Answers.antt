use Rattle.gv_rules.proofs.Locks.{locks_law}
use Rattle.gv_rules.proofs.laws.locks_sound.Goals as goal

pub returns : goal.returns
returns c = locks_law
