use Rattle.gv_blocks.proofs.DiskWrites.{writes_law}
use Rattle.gv_blocks.proofs.laws.writes_sound.Goals as goal

pub returns : goal.returns
returns c = writes_law
