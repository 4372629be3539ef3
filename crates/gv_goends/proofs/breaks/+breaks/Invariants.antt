use Rattle.std.proofs.Common.{◌≤◌, List}
use Rattle.gv_gosyntax.specs.declared.generated.gosyntax_acts.Part.TheVariants.{Stmts as PStmts}
use Rattle.gv_gosyntax.specs.declared.tree.Stmt.{Stmt}
use Rattle.gv_gosyntax.specs.Nodes.{IsPartAt}
use Rattle.gv_gonodes.specs.Stmts.{IsSomeStmts}
use Rattle.gv_gotypes.specs.Returns.{stmts_break}
use Rattle.gv_goends.proofs.Steps.{Rest}
use Rattle.gv_goends.proofs.breaks.+breaks.Given as goal

abbrev pub decreases-block_breaks : goal.decreases-block_breaks
decreases-block_breaks l = l.at

abbrev pub decreases-stmt_breaks : goal.decreases-stmt_breaks
decreases-stmt_breaks l = l.at

abbrev pub decreases-stmts_break : goal.decreases-stmts_break
decreases-stmts_break l = l.at

abbrev pub invariant-stmts_break-loop-stmts : goal.invariant-stmts_break-loop-stmts
invariant-stmts_break-loop-stmts l = record {
  below : l.place ≤ l.at;
  some : IsSomeStmts l.nodes l.place;
  rest : (ss : List Stmt) → IsPartAt l.nodes l.at (PStmts ss) → Rest stmts_break l.nodes l.place ss;
}

abbrev pub decreases-stmts_break-loop-stmts : goal.decreases-stmts_break-loop-stmts
decreases-stmts_break-loop-stmts l = l.place
