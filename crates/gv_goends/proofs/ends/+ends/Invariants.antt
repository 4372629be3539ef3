use Rattle.std.proofs.Common.{◌≤◌, List}
use Rattle.gv_gosyntax.specs.declared.generated.gosyntax_acts.Part.TheVariants.{Stmts as PStmts}
use Rattle.gv_gosyntax.specs.declared.tree.Stmt.{Stmt}
use Rattle.gv_gosyntax.specs.Nodes.{IsPartAt}
use Rattle.gv_gonodes.specs.Stmts.{IsSomeStmts}
use Rattle.gv_gotypes.specs.Returns.{stmts_end}
use Rattle.gv_goends.proofs.Steps.{Rest}
use Rattle.gv_goends.proofs.ends.+ends.Given as goal

abbrev pub decreases-block_ends : goal.decreases-block_ends
decreases-block_ends l = l.at

abbrev pub decreases-stmt_ends : goal.decreases-stmt_ends
decreases-stmt_ends l = l.at

abbrev pub decreases-stmts_end : goal.decreases-stmts_end
decreases-stmts_end l = l.at

abbrev pub invariant-stmts_end-loop-stmt : goal.invariant-stmts_end-loop-stmt
invariant-stmts_end-loop-stmt l = record {
  below : l.place ≤ l.at;
  some : IsSomeStmts l.nodes l.place;
  rest : (ss : List Stmt) → IsPartAt l.nodes l.at (PStmts ss) → Rest stmts_end l.nodes l.place ss;
}

abbrev pub decreases-stmts_end-loop-stmt : goal.decreases-stmts_end-loop-stmt
decreases-stmts_end-loop-stmt l = l.place
