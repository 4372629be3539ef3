use Rattle.std.proofs.Common.{List, reverse}
use Rattle.gv_gosyntax.specs.declared.generated.gosyntax_acts.Part.TheVariants.{Decls as PDecls}
use Rattle.gv_gosyntax.specs.declared.tree.Decl.{Decl}
use Rattle.gv_gosyntax.specs.Nodes.{IsPartAt}
use Rattle.gv_gonodes.specs.Decls.{IsSomeDecls}
use Rattle.gv_goheads.proofs.Splits.{AreHeaded}
use Rattle.gv_goheads.proofs.heads.heads_at.Given as goal

abbrev pub invariant-loop-decls : goal.invariant-loop-decls
invariant-loop-decls l = record {
  some : IsSomeDecls l.nodes l.place;
  rest : (ds : List Decl) → IsPartAt l.nodes l.at (PDecls ds) → AreHeaded l.nodes l.place (reverse l.heads.items) ds;
}

abbrev pub decreases-loop-decls : goal.decreases-loop-decls
decreases-loop-decls l = l.place
