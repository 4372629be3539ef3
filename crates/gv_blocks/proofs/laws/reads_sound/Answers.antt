use Rattle.gv_blocks.proofs.DiskReads.{reads_law}
use Rattle.gv_blocks.proofs.laws.reads_sound.Goals as goal

pub returns : goal.returns
returns c = reads_law
