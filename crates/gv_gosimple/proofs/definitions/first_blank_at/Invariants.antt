use Rattle.std.proofs.Common.{List, length}
use Rattle.gv_gosyntax.specs.declared.tree.Expr.{Expr}
use Rattle.gv_gotypes.specs.Types.{Finding}
use Rattle.gv_gotypes.specs.Assigning.{first_blank}
use Rattle.gv_gosimple.specs.Lefts.{AreExprs, AreSomeExprs}
use Rattle.gv_gosimple.proofs.Splits.{Same}
use Rattle.gv_gosimple.proofs.definitions.first_blank_at.Given as goal

abbrev pub invariant-loop-left : goal.invariant-loop-left
invariant-loop-left g l = record {
  some : AreSomeExprs l.nodes l.left;
  rest : (es : List Expr) → AreExprs l.nodes l.places es → Same (List Finding) (first_blank (g.N.Names.env l.names)) l.nodes l.left es;
}

abbrev pub decreases-loop-left : goal.decreases-loop-left
decreases-loop-left g l = length l.left
