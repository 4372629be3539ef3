use Rattle.std.proofs.Common.{◌≡◌, None, [], take}
use Rattle.gv_terms.specs.Store.{Grows}
use Rattle.gv_specs.specs.Faults.{HasOpFault}
use Rattle.gv_specs.specs.FieldTable.{entry_in}
use Rattle.gv_specs.specs.Names.{with_ops}
use Rattle.gv_specs.specs.Spelled.{IsOp}
use Rattle.gv_specs.specs.Told.{Adds}
use Rattle.gv_specs.proofs.Items.{HasFaultUpTo, AreFirst}
use Rattle.gv_specs.proofs.ops.read_ops.Given as goal

abbrev pub invariant-loop-tree : goal.invariant-loop-tree
invariant-loop-tree l = record {
  grows : Grows l.fn.store l.store;
  scope : l.vars ≡ l.fn.vars;
  names : l.names ≡ with_ops l.text [] (take l.tree-index l.trees);
  noted : Adds (HasFaultUpTo (λ i o. HasOpFault l.text (entry_in l.table) l.fn.vars (with_ops l.text [] (take i l.trees)) o) l.trees l.tree-index) l.fn.first l.first;
  read : l.first ≡ None → AreFirst (λ i t o. IsOp l.text l.store (entry_in l.table) l.fn.vars t o) l.trees l.tree-index l.ops.items;
}
