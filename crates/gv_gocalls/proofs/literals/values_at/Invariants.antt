use Rattle.std.proofs.Common.{List}
use Rattle.gv_gosyntax.specs.declared.generated.gosyntax_acts.Part.TheVariants.{Keyed as PKeyed}
use Rattle.gv_gosyntax.specs.declared.tree.KeyedExpr.{KeyedExpr}
use Rattle.gv_gosyntax.specs.Nodes.{IsPartAt}
use Rattle.gv_gonodes.specs.Keyed.{IsSomeKeyed}
use Rattle.gv_gotypes.specs.Calls.{fields_of}
use Rattle.gv_gocalls.proofs.KeyedLemmas.{Valued}
use Rattle.gv_gocalls.proofs.literals.values_at.Given as goal

abbrev pub invariant-loop-first : goal.invariant-loop-first
invariant-loop-first g l = let env = g.N.Names.env l.names in record {
  some : IsSomeKeyed l.nodes l.place;
  rest : (ks : List KeyedExpr) → IsPartAt l.nodes l.at (PKeyed ks) → Valued env (fields_of env.declared l.base) l.nodes l.place l.first ks;
}

abbrev pub decreases-loop-first : goal.decreases-loop-first
decreases-loop-first g l = l.place
