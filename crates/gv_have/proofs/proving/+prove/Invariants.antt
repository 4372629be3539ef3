use Rattle.std.proofs.Common.{◌≡◌, length, take, drop}
use Rattle.gv_terms.specs.Store.{tree_at, trees_at, AreIn, Grows}
use Rattle.gv_certs.specs.declared.fault.RuleFault.{RuleFault}
use Rattle.gv_have.specs.Telling.{IsProof, IsNoProof}
use Rattle.gv_have.proofs.Forms.{rest_of}
use Rattle.gv_have.proofs.proving.+prove.Given as goal

abbrev pub invariant-loop-i : goal.invariant-loop-i
invariant-loop-i l = record {
  grows : Grows l.fn.store l.store;
  within : AreIn l.store l.facts;
  kept : take (length l.fn.facts) l.facts ≡ l.fn.facts;
  holds : IsProof (rest_of l.scope (drop l.i l.steps) l.last.value) (trees_at l.store l.facts) (tree_at l.fn.store l.goal.id)
      → IsProof (rest_of l.scope l.steps l.last.value) (trees_at l.fn.store l.fn.facts) (tree_at l.fn.store l.goal.id);
  fault : (e : RuleFault) → IsNoProof (rest_of l.scope (drop l.i l.steps) l.last.value) (trees_at l.store l.facts) (tree_at l.fn.store l.goal.id) e
      → IsNoProof (rest_of l.scope l.steps l.last.value) (trees_at l.fn.store l.fn.facts) (tree_at l.fn.store l.goal.id) e;
}
