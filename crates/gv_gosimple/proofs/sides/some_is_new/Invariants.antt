use Rattle.std.proofs.Common.{Bool, List, length}
use Rattle.gv_gosyntax.specs.declared.tree.Expr.{Expr}
use Rattle.gv_gotypes.specs.Assigning.{some_is, is_new}
use Rattle.gv_gosimple.specs.Lefts.{AreExprs, AreSomeExprs}
use Rattle.gv_gosimple.proofs.Splits.{Same}
use Rattle.gv_gosimple.proofs.sides.some_is_new.Given as goal

abbrev pub invariant-loop-left : goal.invariant-loop-left
invariant-loop-left g l = record {
  some : AreSomeExprs l.nodes l.left;
  rest : (es : List Expr) → AreExprs l.nodes l.places es → Same Bool (some_is (is_new (g.N.Names.env l.names))) l.nodes l.left es;
}

abbrev pub decreases-loop-left : goal.decreases-loop-left
decreases-loop-left g l = length l.left
