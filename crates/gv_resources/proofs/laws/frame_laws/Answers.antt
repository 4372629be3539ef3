use Rattle.gv_resources.proofs.Frame.{frame_law}
use Rattle.gv_resources.proofs.laws.frame_laws.Goals as goal

pub returns : goal.returns
returns c = frame_law
