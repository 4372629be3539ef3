use Rattle.std.proofs.Common.{List, length}
use Rattle.gv_gosyntax.specs.declared.tree.Expr.{Expr}
use Rattle.gv_gosimple.specs.Lefts.{AreExprs, AreSomeExprs, by_side}
use Rattle.gv_gosimple.proofs.SideLemmas.{WalkedAt}
use Rattle.gv_gosimple.proofs.targets.targets_at.Given as goal

abbrev pub invariant-loop-left : goal.invariant-loop-left
invariant-loop-left g l = record {
  some : AreSomeExprs l.nodes l.left;
  rest : (es : List Expr) → AreExprs l.nodes l.places es → WalkedAt (by_side (g.N.Names.env l.names) l.side) l.nodes l.left l.wants.items l.first es;
}

abbrev pub decreases-loop-left : goal.decreases-loop-left
decreases-loop-left g l = length l.left
