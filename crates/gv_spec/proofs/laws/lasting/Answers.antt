use Rattle.gv_spec.proofs.RunLaws.{crash_drops_all}
use Rattle.gv_spec.proofs.laws.lasting.Goals as goal

pub returns-clause-drops : goal.returns-clause-drops
returns-clause-drops g c = crash_drops_all g.row.W.Denot g.row.T.Denot g.row.R.Denot g.row.V.Denot
