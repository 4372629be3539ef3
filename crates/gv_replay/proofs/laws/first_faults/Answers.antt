use Rattle.gv_replay.proofs.OrderLemmas.{moves_tell_first, plans_tell_first}
use Rattle.gv_replay.proofs.laws.first_faults.Goals as goal

pub returns-clause-moves : goal.returns-clause-moves
returns-clause-moves c = moves_tell_first

pub returns-clause-schedules : goal.returns-clause-schedules
returns-clause-schedules c = plans_tell_first
