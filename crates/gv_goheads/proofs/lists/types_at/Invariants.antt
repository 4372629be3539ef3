use Rattle.std.proofs.Common.{List, reverse}
use Rattle.gv_gosyntax.specs.declared.generated.gosyntax_acts.Part.TheVariants.{Types as PTypes}
use Rattle.gv_gosyntax.specs.declared.tree.GoType.{GoType}
use Rattle.gv_gosyntax.specs.Nodes.{IsPartAt}
use Rattle.gv_gonodes.specs.Types.{IsSomeTypes}
use Rattle.gv_goheads.proofs.Splits.{IsSplit}
use Rattle.gv_goheads.proofs.lists.types_at.Given as goal

abbrev pub invariant-loop-types : goal.invariant-loop-types
invariant-loop-types l = record {
  some : IsSomeTypes l.nodes l.place;
  rest : (ts : List GoType) → IsPartAt l.nodes l.at (PTypes ts) → IsSplit l.nodes PTypes l.place (reverse l.kinds.items) ts;
}

abbrev pub decreases-loop-types : goal.decreases-loop-types
decreases-loop-types l = l.place
