use Rattle.gv_rules.proofs.Stores.{stores_law}
use Rattle.gv_rules.proofs.laws.stores_sound.Goals as goal

pub returns : goal.returns
returns c = stores_law
