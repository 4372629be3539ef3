use Rattle.std.proofs.Common.{◌≡◌, None, [], take}
use Rattle.gv_terms.specs.Store.{Grows}
use Rattle.gv_specs.specs.Faults.{HasFieldFault}
use Rattle.gv_specs.specs.Names.{with_fields}
use Rattle.gv_specs.specs.Spelled.{IsField}
use Rattle.gv_specs.specs.Told.{Adds}
use Rattle.gv_specs.proofs.Items.{HasFaultUpTo, AreFirst}
use Rattle.gv_specs.proofs.fields.read_fields.Given as goal

abbrev pub invariant-loop-tree : goal.invariant-loop-tree
invariant-loop-tree l = record {
  grows : Grows l.fn.store l.store;
  scope : l.vars ≡ with_fields l.text [] (take l.tree-index l.trees);
  noted : Adds (HasFaultUpTo (λ i f. HasFieldFault l.text (with_fields l.text [] (take i l.trees)) f) l.trees l.tree-index) l.fn.first l.first;
  read : l.first ≡ None → AreFirst (λ i t f. IsField l.text l.store t f) l.trees l.tree-index l.fields.items;
}
