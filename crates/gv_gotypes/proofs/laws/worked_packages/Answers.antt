use Rattle.gv_gotypes.proofs.Rows.{all_rows}
use Rattle.gv_gotypes.proofs.laws.worked_packages.Goals as goal

pub returns : goal.returns
returns c = all_rows
