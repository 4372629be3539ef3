use Rattle.gv_lowering.proofs.Computed.{rows}
use Rattle.gv_lowering.proofs.laws.worked_programs.Goals as goal

pub returns : goal.returns
returns c = rows
