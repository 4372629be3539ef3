use Rattle.gv_giving.proofs.Entering.{spawns_law}
use Rattle.gv_giving.proofs.laws.spawns_sound.Goals as goal

pub returns : goal.returns
returns c = spawns_law
