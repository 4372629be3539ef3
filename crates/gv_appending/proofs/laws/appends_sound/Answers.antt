use Rattle.gv_appending.proofs.Appends.{appends_law}
use Rattle.gv_appending.proofs.laws.appends_sound.Goals as goal

pub returns : goal.returns
returns c = appends_law
