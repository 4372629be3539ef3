use Rattle.std.proofs.Common.{List, reverse}
use Rattle.gv_gosyntax.specs.declared.generated.gosyntax_acts.Part.TheVariants.{Keyed as PKeyed}
use Rattle.gv_gosyntax.specs.declared.tree.KeyedExpr.{KeyedExpr}
use Rattle.gv_gosyntax.specs.Nodes.{IsPartAt}
use Rattle.gv_gonodes.specs.Keyed.{IsSomeKeyed}
use Rattle.gv_gocalls.proofs.KeyedLemmas.{Keys}
use Rattle.gv_gocalls.proofs.literals.keys_at.Given as goal

abbrev pub invariant-loop-fields : goal.invariant-loop-fields
invariant-loop-fields l = record {
  some : IsSomeKeyed l.nodes l.place;
  rest : (ks : List KeyedExpr) → IsPartAt l.nodes l.at (PKeyed ks) → Keys l.nodes l.place (reverse l.keys.items) ks;
}

abbrev pub decreases-loop-fields : goal.decreases-loop-fields
decreases-loop-fields l = l.place
