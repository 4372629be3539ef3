use Rattle.gv_acting.proofs.Simming.{acts_law}
use Rattle.gv_acting.proofs.laws.acts_sound.Goals as goal

pub returns : goal.returns
returns c = acts_law
