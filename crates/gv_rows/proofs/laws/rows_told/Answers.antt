use Rattle.gv_rows.proofs.Inversion.{told_law}
use Rattle.gv_rows.proofs.laws.rows_told.Goals as goal

pub returns : goal.returns
returns c = told_law
