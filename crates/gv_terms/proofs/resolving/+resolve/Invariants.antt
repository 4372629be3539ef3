use Rattle.std.proofs.Common.{◌≡◌, Some, map, take}
use Rattle.gv_terms.specs.Store.{trees_at, AreIn, Grows}
use Rattle.gv_terms.specs.Resolving.{resolved}
use Rattle.gv_terms.proofs.resolving.+resolve.Given as goal

abbrev pub invariant-loop-i : goal.invariant-loop-i
invariant-loop-i l = record {
  grows : Grows l.fn.store l.store;
  within : AreIn l.store l.terms.items;
  stand : map (resolved l.scope) (take l.i l.parts) ≡ map Some (trees_at l.store l.terms.items);
}
