use Rattle.std.proofs.Common.{◌≤◌, List, reverse}
use Rattle.gv_gosyntax.specs.declared.generated.gosyntax_acts.Part.TheVariants.{Stmts as PStmts}
use Rattle.gv_gosyntax.specs.declared.tree.Stmt.{Stmt}
use Rattle.gv_gosyntax.specs.Nodes.{IsPartAt}
use Rattle.gv_gonodes.specs.Stmts.{IsSomeStmts}
use Rattle.gv_gostmts.proofs.Steps.{IsSplit}
use Rattle.gv_gostmts.proofs.lists.statements_at.Given as goal

abbrev pub invariant-loop-places : goal.invariant-loop-places
invariant-loop-places l = record {
  below : l.place ≤ l.at;
  some : IsSomeStmts l.nodes l.place;
  rest : (ss : List Stmt) → IsPartAt l.nodes l.at (PStmts ss) → IsSplit l.nodes l.at l.place (reverse l.places.items) ss;
}

abbrev pub decreases-loop-places : goal.decreases-loop-places
decreases-loop-places l = l.place
