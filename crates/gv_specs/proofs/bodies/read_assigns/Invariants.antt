use Rattle.std.proofs.Common.{◌≡◌, None, take}
use Rattle.gv_terms.specs.Store.{Grows}
use Rattle.gv_specs.specs.Bodies.{AreAssigned}
use Rattle.gv_specs.specs.Faults.{HasAssignFault}
use Rattle.gv_specs.specs.FieldTable.{entry_in}
use Rattle.gv_specs.specs.Spelled.{IsAssign}
use Rattle.gv_specs.specs.Told.{Adds}
use Rattle.gv_specs.proofs.Items.{HasFaultUpTo, AreFirst}
use Rattle.gv_specs.proofs.bodies.read_assigns.Given as goal

abbrev pub invariant-loop-tree : goal.invariant-loop-tree
invariant-loop-tree l = record {
  grows : Grows l.fn.store l.store;
  assigned : AreAssigned l.text (take l.tree-index l.trees) l.assigned;
  noted : Adds (HasFaultUpTo (λ i a. HasAssignFault l.text (entry_in l.table) l.vars (take i l.trees) a) l.trees l.tree-index) l.fn.first l.first;
  read : l.first ≡ None → AreFirst (λ i t a. IsAssign l.text l.store (entry_in l.table) l.vars t a) l.trees l.tree-index l.assigns.items;
}
