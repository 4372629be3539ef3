use Rattle.gv_putting.proofs.Puts.{puts_law}
use Rattle.gv_putting.proofs.laws.puts_sound.Goals as goal

pub returns : goal.returns
returns c = puts_law
