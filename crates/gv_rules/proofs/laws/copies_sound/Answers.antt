use Rattle.gv_rules.proofs.Moves.{copies_law}
use Rattle.gv_rules.proofs.laws.copies_sound.Goals as goal

pub returns : goal.returns
returns c = copies_law
