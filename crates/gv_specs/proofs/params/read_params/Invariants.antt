use Rattle.std.proofs.Common.{◌≡◌, take, map}
use Rattle.gv_specs.specs.Faults.{HasParamFault}
use Rattle.gv_specs.specs.Names.{param_var, with_params}
use Rattle.gv_specs.specs.Told.{Adds}
use Rattle.gv_specs.proofs.Items.{HasFaultUpTo}
use Rattle.gv_specs.proofs.params.read_params.Given as goal

abbrev pub invariant-loop-tree : goal.invariant-loop-tree
invariant-loop-tree l = record {
  scope : l.vars ≡ with_params l.text l.fn.vars (take l.tree-index l.trees);
  noted : Adds (HasFaultUpTo (λ i p. HasParamFault l.text (with_params l.text l.fn.vars (take i l.trees)) p) l.trees l.tree-index) l.fn.first l.first;
  read : l.params.items ≡ map (param_var l.text) (take l.tree-index l.trees);
}
