use Rattle.std.proofs.Common.{◌≡◌, None, take}
use Rattle.gv_terms.specs.Store.{Grows}
use Rattle.gv_specs.specs.Faults.{HasPickFault}
use Rattle.gv_specs.specs.Names.{with_picks}
use Rattle.gv_specs.specs.Spelled.{IsPick}
use Rattle.gv_specs.specs.Told.{Adds}
use Rattle.gv_specs.proofs.Items.{HasFaultUpTo, AreFirst}
use Rattle.gv_specs.proofs.bodies.read_picks.Given as goal

abbrev pub invariant-loop-tree : goal.invariant-loop-tree
invariant-loop-tree l = record {
  grows : Grows l.fn.store l.store;
  scope : l.vars ≡ with_picks l.text l.fn.vars (take l.tree-index l.trees);
  noted : Adds (HasFaultUpTo (λ i p. HasPickFault l.text (with_picks l.text l.fn.vars (take i l.trees)) p) l.trees l.tree-index) l.fn.first l.first;
  read : l.first ≡ None → AreFirst (λ i t p. IsPick l.text l.store (with_picks l.text l.fn.vars (take i l.trees)) t p) l.trees l.tree-index l.picks.items;
}
