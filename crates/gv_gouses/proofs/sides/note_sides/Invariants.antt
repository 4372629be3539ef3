use Rattle.std.proofs.Common.{List, length}
use Rattle.gv_gosyntax.specs.declared.tree.Expr.{Expr}
use Rattle.gv_gosimple.specs.Lefts.{AreExprs, AreSomeExprs, by_side}
use Rattle.gv_gouses.proofs.SideUses.{Sided}
use Rattle.gv_gouses.proofs.sides.note_sides.Given as goal

abbrev pub invariant-loop-left : goal.invariant-loop-left
invariant-loop-left g l = record {
  some : AreSomeExprs l.nodes l.left;
  rest : (es : List Expr) → AreExprs l.nodes l.places es → Sided (by_side (g.N.Names.env l.names) l.side) l.nodes l.left l.fn.uses.items l.uses.items es;
}

abbrev pub decreases-loop-left : goal.decreases-loop-left
decreases-loop-left g l = length l.left
