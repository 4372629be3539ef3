use Rattle.gv_giving.proofs.Entering.{calls_law}
use Rattle.gv_giving.proofs.laws.calls_sound.Goals as goal

pub returns : goal.returns
returns c = calls_law
