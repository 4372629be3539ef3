use Rattle.gv_lockstep.proofs.Arrows.{graph_law}
use Rattle.gv_lockstep.proofs.laws.graphs.Goals as goal

pub returns-clause-graph : goal.returns-clause-graph
returns-clause-graph c = graph_law
