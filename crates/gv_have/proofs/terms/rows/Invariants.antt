use Rattle.std.proofs.Common.{◌≡◌, Some, map, take}
use Rattle.gv_terms.specs.Store.{trees_at, AreIn, Grows}
use Rattle.gv_axioms.specs.Truth.{AreTerms}
use Rattle.gv_sums.specs.Reading.{row_at, formulas_in}
use Rattle.gv_have.specs.Scoping.{rows_of}
use Rattle.gv_have.proofs.terms.rows.Given as goal

abbrev pub invariant-loop-i : goal.invariant-loop-i
invariant-loop-i l = record {
  grows : Grows l.fn.store l.store;
  within : AreIn l.store (formulas_in l.made.items);
  stand : rows_of l.scope (take l.i l.rows) ≡ Some (map (row_at l.store) l.made.items);
  terms : AreTerms (trees_at l.store (formulas_in l.made.items));
}
