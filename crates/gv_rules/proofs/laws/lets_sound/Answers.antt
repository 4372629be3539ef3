use Rattle.gv_rules.proofs.Steps.{lets_law}
use Rattle.gv_rules.proofs.laws.lets_sound.Goals as goal

pub returns : goal.returns
returns c = lets_law
