use Rattle.gv_giving.proofs.Answering.{answers_law}
use Rattle.gv_giving.proofs.laws.answers_sound.Goals as goal

pub returns : goal.returns
returns c = answers_law
