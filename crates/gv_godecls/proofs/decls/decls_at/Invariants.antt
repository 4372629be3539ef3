use Rattle.std.proofs.Common.{◌≤◌, List, reverse}
use Rattle.gv_gosyntax.specs.declared.generated.gosyntax_acts.Part.TheVariants.{Decls as PDecls}
use Rattle.gv_gosyntax.specs.declared.tree.Decl.{Decl}
use Rattle.gv_gosyntax.specs.Nodes.{IsPartAt}
use Rattle.gv_gonodes.specs.Decls.{IsSomeDecls}
use Rattle.gv_godecls.proofs.Splits.{IsSplit}
use Rattle.gv_godecls.proofs.decls.decls_at.Given as goal

abbrev pub invariant-loop-decls : goal.invariant-loop-decls
invariant-loop-decls l = record {
  below : l.place ≤ l.at;
  some : IsSomeDecls l.nodes l.place;
  rest : (ds : List Decl) → IsPartAt l.nodes l.at (PDecls ds) → IsSplit l.nodes l.at l.place (reverse l.places.items) ds;
}

abbrev pub decreases-loop-decls : goal.decreases-loop-decls
decreases-loop-decls l = l.place
