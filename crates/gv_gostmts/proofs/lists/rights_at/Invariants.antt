use Rattle.std.proofs.Common.{List, reverse}
use Rattle.gv_gosyntax.specs.declared.generated.gosyntax_acts.Part.TheVariants.{Rights as PRights}
use Rattle.gv_gosyntax.specs.declared.tree.Right.{Right}
use Rattle.gv_gosyntax.specs.Nodes.{IsPartAt}
use Rattle.gv_gonodes.specs.Rights.{IsSomeRights}
use Rattle.gv_gostmts.proofs.ReturnLemmas.{IsSplit}
use Rattle.gv_gostmts.proofs.lists.rights_at.Given as goal

abbrev pub invariant-loop-places : goal.invariant-loop-places
invariant-loop-places l = record {
  some : IsSomeRights l.nodes l.place;
  rest : (rs : List Right) → IsPartAt l.nodes l.at (PRights rs) → IsSplit l.nodes l.place (reverse l.places.items) rs;
}

abbrev pub decreases-loop-places : goal.decreases-loop-places
decreases-loop-places l = l.place
