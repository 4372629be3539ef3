use Rattle.gv_giving.proofs.Returning.{returns_law}
use Rattle.gv_giving.proofs.laws.returns_sound.Goals as goal

pub returns : goal.returns
returns c = returns_law
