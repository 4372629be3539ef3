use Rattle.gv_rows.proofs.Rules.{load_row_law}
use Rattle.gv_rows.proofs.laws.load_row_sound.Goals as goal

pub returns : goal.returns
returns c = load_row_law
