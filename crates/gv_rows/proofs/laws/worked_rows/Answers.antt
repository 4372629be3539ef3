use Rattle.gv_rows.proofs.Worked.{worked_rows}
use Rattle.gv_rows.proofs.laws.worked_rows.Goals as goal

pub returns : goal.returns
returns c = worked_rows
