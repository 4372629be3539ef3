use Rattle.gv_rows.proofs.Rules.{store_row_law}
use Rattle.gv_rows.proofs.laws.store_row_sound.Goals as goal

pub returns : goal.returns
returns c = store_row_law
