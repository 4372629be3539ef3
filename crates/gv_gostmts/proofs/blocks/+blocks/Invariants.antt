use Rattle.std.proofs.Common.{◌≡◌, ◌+◌, ◌*◌, List, length}
use Rattle.gv_gosyntax.specs.declared.generated.gosyntax_acts.Part.TheVariants.{Stmts as PStmts}
use Rattle.gv_gosyntax.specs.declared.tree.Stmt.{Stmt}
use Rattle.gv_gosyntax.specs.Nodes.{IsPartAt}
use Rattle.gv_gostmts.proofs.Steps.{Walked}
use Rattle.gv_gostmts.proofs.blocks.+blocks.Given as goal

abbrev pub decreases-stmt_fault : goal.decreases-stmt_fault
decreases-stmt_fault g l = 3 * l.at

abbrev pub decreases-loop_fault : goal.decreases-loop_fault
decreases-loop_fault g l = 3 * l.body + 2

abbrev pub decreases-while_fault : goal.decreases-while_fault
decreases-while_fault g l = 3 * l.body + 2

abbrev pub decreases-for_fault : goal.decreases-for_fault
decreases-for_fault g l = 3 * l.body + 2

abbrev pub decreases-literal_fault : goal.decreases-literal_fault
decreases-literal_fault g l = 3 * l.body + 1

abbrev pub decreases-nested_fault : goal.decreases-nested_fault
decreases-nested_fault g l = 3 * l.body + 1

abbrev pub decreases-stmts_fault : goal.decreases-stmts_fault
decreases-stmts_fault g l = 3 * l.at

abbrev pub decreases-block_fault : goal.decreases-block_fault
decreases-block_fault g l = 3 * l.at

abbrev pub invariant-stmts_fault-loop-left : goal.invariant-stmts_fault-loop-left
invariant-stmts_fault-loop-left g l = record {
  outer : g.N.Scopes.outer l.names ≡ g.N.Scopes.outer l.fn.names;
  rest : (ss : List Stmt) → IsPartAt l.nodes l.at (PStmts ss) → Walked (g.N.Names.env l.fn.names) (g.N.Names.env l.names) l.nodes l.at l.left l.first ss;
}

abbrev pub decreases-stmts_fault-loop-left : goal.decreases-stmts_fault-loop-left
decreases-stmts_fault-loop-left g l = length l.left
