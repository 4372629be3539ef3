use Rattle.std.proofs.Common.{List}
use Rattle.gv_gosyntax.specs.declared.generated.gosyntax_acts.Part.TheVariants.{Exprs as PExprs}
use Rattle.gv_gosyntax.specs.declared.tree.Expr.{Expr}
use Rattle.gv_gosyntax.specs.Nodes.{IsPartAt}
use Rattle.gv_gonodes.specs.Exprs.{IsSomeExprs}
use Rattle.gv_gocalls.proofs.ArgumentLemmas.{Argued}
use Rattle.gv_gocalls.proofs.arguments.arguments_at.Given as goal

abbrev pub invariant-loop-first : goal.invariant-loop-first
invariant-loop-first g l = record {
  some : IsSomeExprs l.nodes l.place;
  rest : (es : List Expr) → IsPartAt l.nodes l.at (PExprs es) → Argued (g.N.Names.env l.names) l.params l.nodes l.place l.left l.first es;
}

abbrev pub decreases-loop-first : goal.decreases-loop-first
decreases-loop-first g l = l.place
