use Rattle.std.proofs.Common.{◌≡◌, List, length}
use Rattle.gv_gosyntax.specs.declared.tree.Expr.{Expr}
use Rattle.gv_gosimple.specs.Lefts.{AreExprs, AreSomeExprs}
use Rattle.gv_gosimple.proofs.Declared.{Behind}
use Rattle.gv_gosimple.proofs.declares.declare_all.Given as goal

abbrev pub invariant-loop-left : goal.invariant-loop-left
invariant-loop-left g l = record {
  some : AreSomeExprs l.nodes l.left;
  outer : g.N.Scopes.outer l.names ≡ g.N.Scopes.outer l.fn.names;
  rest : (es : List Expr) → AreExprs l.nodes l.places es → Behind (g.N.Names.env l.fn.names) (g.N.Names.env l.names) l.nodes l.left l.kinds l.given es;
}

abbrev pub decreases-loop-left : goal.decreases-loop-left
decreases-loop-left g l = length l.left
