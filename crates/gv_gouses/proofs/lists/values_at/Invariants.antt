use Rattle.std.proofs.Common.{List, reverse}
use Rattle.gv_gosyntax.specs.declared.generated.gosyntax_acts.Part.TheVariants.{Keyed as PKeyed}
use Rattle.gv_gosyntax.specs.declared.tree.KeyedExpr.{KeyedExpr}
use Rattle.gv_gosyntax.specs.Nodes.{IsPartAt}
use Rattle.gv_gonodes.specs.Keyed.{IsSomeKeyed}
use Rattle.gv_gouses.proofs.ListUses.{IsSplit}
use Rattle.gv_gouses.proofs.lists.values_at.Given as goal

abbrev pub invariant-loop-places : goal.invariant-loop-places
invariant-loop-places l = record {
  some : IsSomeKeyed l.nodes l.place;
  rest : (ks : List KeyedExpr) → IsPartAt l.nodes l.at (PKeyed ks) → IsSplit l.nodes l.place (reverse l.places.items) ks;
}

abbrev pub decreases-loop-places : goal.decreases-loop-places
decreases-loop-places l = l.place
