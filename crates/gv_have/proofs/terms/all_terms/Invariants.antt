use Rattle.std.proofs.Common.{◌≡◌, Some, map, take}
use Rattle.gv_terms.specs.Resolving.{resolved}
use Rattle.gv_terms.specs.Store.{trees_at, AreIn, Grows}
use Rattle.gv_axioms.specs.Truth.{AreTerms}
use Rattle.gv_have.proofs.terms.all_terms.Given as goal

abbrev pub invariant-loop-i : goal.invariant-loop-i
invariant-loop-i l = record {
  grows : Grows l.fn.store l.store;
  within : AreIn l.store l.made.items;
  stand : map (resolved l.scope) (take l.i l.terms) ≡ map Some (trees_at l.store l.made.items);
  terms : AreTerms (trees_at l.store l.made.items);
}
