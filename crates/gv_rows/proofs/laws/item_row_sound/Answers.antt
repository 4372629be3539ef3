use Rattle.gv_rows.proofs.ItemRow.{item_row_law}
use Rattle.gv_rows.proofs.laws.item_row_sound.Goals as goal

pub returns : goal.returns
returns c = item_row_law
