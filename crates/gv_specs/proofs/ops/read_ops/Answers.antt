use Rattle.std.proofs.Common.{◌<◌, List, [], length, take, sym, ap, subst, ◌∙◌, arith}
use Rattle.gv_terms.specs.declared.var.Var.{Var}
use Rattle.gv_specs.specs.Faults.{HasOpFault}
use Rattle.gv_specs.specs.FieldTable.{entry_in}
use Rattle.gv_specs.specs.Names.{op_var, with_ops, with_var}
use Rattle.gv_specs.specs.Spelled.{IsOp}
use Rattle.gv_specs.specs.Told.{Adds}
use Rattle.gv_specs.proofs.Firsts.{still_told}
use Rattle.gv_specs.proofs.Growing.{grows_on, op_grows, vars_more}
use Rattle.gv_specs.proofs.Items.{adds_item, adds_items, are_more, are_all, are_weaker}
use Rattle.gv_specs.proofs.ops.read_ops.Goals as goal

pub loop-tree-preserved : goal.loop-tree-preserved
loop-tree-preserved c =
    let text = c.args.text.now in
    let named = entry_in c.args.table.now in
    let vars = c.args.vars.now in
    let trees = c.args.trees.now in
    let i = c.loop-tree.tree-index in
    let x = c.tree-item.result in
    let lt : i < length trees = omega arith in
    let old = c.loop-tree.store in
    let new = c.read_op.new.store in
    let names = with_ops text [] (take i trees) in
    let one : Adds (HasOpFault text named c.loop-tree.vars names x) c.loop-tree.first c.read_op.new.first =
    subst (λ (ns : List Var). Adds (HasOpFault text named c.loop-tree.vars ns x) c.loop-tree.first c.read_op.new.first) c.loop-tree.invariant.names c.in_ok-op.ensures.noted in
    let noted : Adds (HasOpFault text named vars names x) c.loop-tree.first c.read_op.new.first =
    subst (λ (vs : List Var). Adds (HasOpFault text named vs names x) c.loop-tree.first c.read_op.new.first) c.loop-tree.invariant.scope one in
    record {
      grows = grows_on c.args.store.now old new c.loop-tree.invariant.grows c.read_op.ensures.grows;
      scope = c.in_ok-op.ensures.scope ∙ c.loop-tree.invariant.scope;
      names = c.in_ok-op.ensures.names ∙ ap (λ (vs : List Var). with_var vs (op_var text x)) c.loop-tree.invariant.names ∙ sym (vars_more (op_var text) [] trees i x lt c.tree-item.is);
      noted = adds_item (λ k o. HasOpFault text named vars (with_ops text [] (take k trees)) o) trees i x c.args.first.now c.loop-tree.first c.read_op.new.first lt c.tree-item.is c.loop-tree.invariant.noted noted;
      read = λ e. are_more (λ k t o. IsOp text new named vars t o) trees i x c.loop-tree.ops.items _ c.in_ok-op.op lt c.tree-item.is
          (are_weaker (λ k t o. IsOp text old named vars t o) (λ k t o. IsOp text new named vars t o) trees i c.loop-tree.ops.items
          (λ k t o h. op_grows text old new named vars t o c.read_op.ensures.grows h)
          (c.loop-tree.invariant.read (still_told (HasOpFault text named vars names x) c.loop-tree.first c.read_op.new.first noted e)))
          (subst (λ (vs : List Var). IsOp text new named vs x c.in_ok-op.op) c.loop-tree.invariant.scope (c.in_ok-op.ensures.read e)) c.in_ok-push.ensures.items;
    }

pub returns-clause-noted : goal.returns-clause-noted
returns-clause-noted c =
    adds_items (λ k o. HasOpFault c.args.text.now (entry_in c.args.table.now) c.args.vars.now (with_ops c.args.text.now [] (take k c.args.trees.now)) o) c.args.trees.now c.loop-tree.tree-index c.args.first.now c.loop-tree.first (omega arith)
    c.loop-tree.invariant.noted

pub returns-clause-read : goal.returns-clause-read
returns-clause-read c = λ e.
    are_all (λ k t o. IsOp c.args.text.now c.loop-tree.store (entry_in c.args.table.now) c.args.vars.now t o) c.args.trees.now c.loop-tree.tree-index c.loop-tree.ops.items (omega arith) (c.loop-tree.invariant.read e)
