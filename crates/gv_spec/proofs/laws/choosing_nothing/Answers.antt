use Rattle.gv_spec.proofs.PlainLaws.{walks_are_same, explains_erased, explained_same}
use Rattle.gv_spec.proofs.laws.choosing_nothing.Goals as goal

pub returns-clause-walks : goal.returns-clause-walks
returns-clause-walks g c = walks_are_same g.row.F.Denot g.row.V.Denot

pub returns-clause-erased : goal.returns-clause-erased
returns-clause-erased g c = explains_erased g.row.F.Denot g.row.V.Denot

pub returns-clause-explained : goal.returns-clause-explained
returns-clause-explained g c = explained_same g.row.F.Denot g.row.V.Denot
