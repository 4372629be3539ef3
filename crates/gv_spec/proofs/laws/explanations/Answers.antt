use Rattle.gv_spec.proofs.WalkLaws.{walk_tells, acts_once, acted_when_answered, no_act_after_boot, no_wrong_reply}
use Rattle.gv_spec.proofs.OneCall.{one_call_replies}
use Rattle.gv_spec.proofs.laws.explanations.Goals as goal

pub returns-clause-tells : goal.returns-clause-tells
returns-clause-tells g c = walk_tells g.row.F.Denot g.row.V.Denot

pub returns-clause-once : goal.returns-clause-once
returns-clause-once g c = acts_once g.row.F.Denot g.row.V.Denot

pub returns-clause-answered : goal.returns-clause-answered
returns-clause-answered g c = acted_when_answered g.row.F.Denot g.row.V.Denot

pub returns-clause-left_behind : goal.returns-clause-left_behind
returns-clause-left_behind g c = no_act_after_boot g.row.F.Denot g.row.V.Denot

pub returns-clause-right_replies : goal.returns-clause-right_replies
returns-clause-right_replies g c = no_wrong_reply g.row.F.Denot g.row.V.Denot

pub returns-clause-one_call : goal.returns-clause-one_call
returns-clause-one_call g c = one_call_replies g.row.F.Denot g.row.V.Denot
