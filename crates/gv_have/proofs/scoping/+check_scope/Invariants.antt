use Rattle.std.proofs.Common.{◌≡◌, None, drop}
use Rattle.gv_terms.specs.Store.{Grows}
use Rattle.gv_have.specs.Telling.{IsScoped}
use Rattle.gv_have.proofs.Forms.{rest_of}
use Rattle.gv_have.proofs.scoping.+check_scope.Given as goal

abbrev pub invariant-loop-i : goal.invariant-loop-i
invariant-loop-i l = record {
  grows : Grows l.fn.store l.store;
  scoped : IsScoped (rest_of l.scope (drop l.i l.steps) l.last.value) → IsScoped (rest_of l.scope l.steps l.last.value);
  none : rest_of l.scope (drop l.i l.steps) l.last.value ≡ None → rest_of l.scope l.steps l.last.value ≡ None;
}
