use Rattle.std.proofs.Common.{List, length}
use Rattle.gv_gosyntax.specs.declared.tree.Expr.{Expr}
use Rattle.gv_gosimple.specs.Lefts.{AreExprs, AreSomeExprs}
use Rattle.gv_gouses.proofs.ListUses.{Walked}
use Rattle.gv_gouses.proofs.lists.note_placed.Given as goal

abbrev pub invariant-loop-left : goal.invariant-loop-left
invariant-loop-left g l = record {
  some : AreSomeExprs l.nodes l.left;
  rest : (es : List Expr) → AreExprs l.nodes l.places es → Walked (g.N.Names.env l.names) l.nodes l.left l.fn.uses.items l.uses.items es;
}

abbrev pub decreases-loop-left : goal.decreases-loop-left
decreases-loop-left g l = length l.left
