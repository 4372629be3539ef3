use Rattle.std.proofs.Common.{List, length}
use Rattle.gv_gosyntax.specs.declared.tree.Right.{Right}
use Rattle.gv_gostmts.specs.Lists.{AreRights, AreSomeRights}
use Rattle.gv_gostmts.proofs.ReturnLemmas.{Walked}
use Rattle.gv_gostmts.proofs.returns.returned_fault.Given as goal

abbrev pub invariant-loop-left : goal.invariant-loop-left
invariant-loop-left g l = record {
  some : AreSomeRights l.nodes l.left;
  rest : (rs : List Right) → AreRights l.nodes l.places rs → Walked (g.N.Names.env l.names) l.nodes l.left (g.N.Names.env l.names).results l.kinds l.first rs;
}

abbrev pub decreases-loop-left : goal.decreases-loop-left
decreases-loop-left g l = length l.left
