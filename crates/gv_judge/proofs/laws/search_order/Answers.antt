use Rattle.gv_judge.proofs.SearchLaws.{nodes_are_walks, full_nodes_explain}
use Rattle.gv_judge.proofs.laws.search_order.Goals as goal

pub returns-clause-nodes : goal.returns-clause-nodes
returns-clause-nodes g c = nodes_are_walks g.row.F.Denot g.row.V.Denot

pub returns-clause-full : goal.returns-clause-full
returns-clause-full g c = full_nodes_explain g.row.F.Denot g.row.V.Denot
