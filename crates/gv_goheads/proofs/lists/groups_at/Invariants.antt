use Rattle.std.proofs.Common.{List, reverse}
use Rattle.gv_gosyntax.specs.declared.generated.gosyntax_acts.Part.TheVariants.{Groups as PGroups}
use Rattle.gv_gosyntax.specs.declared.tree.Group.{Group}
use Rattle.gv_gosyntax.specs.Nodes.{IsPartAt}
use Rattle.gv_gonodes.specs.Groups.{IsSomeGroups}
use Rattle.gv_goheads.proofs.Splits.{IsSplit}
use Rattle.gv_goheads.proofs.lists.groups_at.Given as goal

abbrev pub invariant-loop-groups : goal.invariant-loop-groups
invariant-loop-groups l = record {
  some : IsSomeGroups l.nodes l.place;
  rest : (gs : List Group) → IsPartAt l.nodes l.at (PGroups gs) → IsSplit l.nodes PGroups l.place (reverse l.done.items) gs;
}

abbrev pub decreases-loop-groups : goal.decreases-loop-groups
decreases-loop-groups l = l.place
