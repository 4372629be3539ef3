use Rattle.gv_terms.specs.Store.{trees_at, AreIn, Grows}
use Rattle.gv_typing.proofs.PlacedFaults.{Stand}
use Rattle.gv_typing.proofs.resolving.+make_node.Given as goal

abbrev pub invariant-loop-i : goal.invariant-loop-i
invariant-loop-i l = record {
  grows : Grows l.fn.store l.store;
  within : AreIn l.store l.terms.items;
  stand : Stand l.scope l.place l.parts l.i l.first (trees_at l.store l.terms.items);
}
