use Rattle.gv_rules.proofs.Loads.{loads_law}
use Rattle.gv_rules.proofs.laws.loads_sound.Goals as goal

pub returns : goal.returns
returns c = loads_law
