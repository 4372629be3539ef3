use Rattle.gv_lockstep.proofs.Ways.{lockstep_law}
use Rattle.gv_points.proofs.emission.points.Goals as goal

pub returns-in_err-proc_graph-clause-lockstep : goal.returns-in_err-proc_graph-clause-lockstep
returns-in_err-proc_graph-clause-lockstep c = lockstep_law _ c.requires

pub returns-in_err-push-clause-lockstep : goal.returns-in_err-push-clause-lockstep
returns-in_err-push-clause-lockstep c = lockstep_law _ c.requires

pub returns-clause-lockstep : goal.returns-clause-lockstep
returns-clause-lockstep c = lockstep_law _ c.requires
