use Rattle.gv_lang.proofs.Rows.{rows}
use Rattle.gv_lang.proofs.laws.worked.Goals as goal

pub returns : goal.returns
returns c = rows
