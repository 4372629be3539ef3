use Rattle.std.proofs.Common.{List, reverse}
use Rattle.gv_gosyntax.specs.declared.generated.gosyntax_acts.Part.TheVariants.{Exprs as PExprs}
use Rattle.gv_gosyntax.specs.declared.tree.Expr.{Expr}
use Rattle.gv_gosyntax.specs.Nodes.{IsPartAt}
use Rattle.gv_gonodes.specs.Exprs.{IsSomeExprs}
use Rattle.gv_gosimple.proofs.Splits.{IsSplit}
use Rattle.gv_gosimple.proofs.places.places_at.Given as goal

abbrev pub invariant-loop-places : goal.invariant-loop-places
invariant-loop-places l = record {
  some : IsSomeExprs l.nodes l.place;
  rest : (es : List Expr) → IsPartAt l.nodes l.at (PExprs es) → IsSplit l.nodes l.place (reverse l.places.items) es;
}

abbrev pub decreases-loop-places : goal.decreases-loop-places
decreases-loop-places l = l.place
