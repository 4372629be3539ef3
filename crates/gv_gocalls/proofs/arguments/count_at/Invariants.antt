use Rattle.std.proofs.Common.{◌≤◌, ◌+◌, List}
use Rattle.gv_gosyntax.specs.declared.generated.gosyntax_acts.Part.TheVariants.{Exprs as PExprs}
use Rattle.gv_gosyntax.specs.declared.tree.Expr.{Expr}
use Rattle.gv_gosyntax.specs.Nodes.{IsPartAt}
use Rattle.gv_gonodes.specs.Exprs.{IsSomeExprs}
use Rattle.gv_gocalls.proofs.ArgumentLemmas.{Counted}
use Rattle.gv_gocalls.proofs.arguments.count_at.Given as goal

abbrev pub invariant-loop-exprs : goal.invariant-loop-exprs
invariant-loop-exprs l = record {
  below : l.count + l.place ≤ l.at;
  some : IsSomeExprs l.nodes l.place;
  rest : (es : List Expr) → IsPartAt l.nodes l.at (PExprs es) → Counted l.nodes l.place l.count es;
}

abbrev pub decreases-loop-exprs : goal.decreases-loop-exprs
decreases-loop-exprs l = l.place
