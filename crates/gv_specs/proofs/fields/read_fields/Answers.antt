use Rattle.std.proofs.Common.{◌<◌, List, [], length, take, sym, ap, subst, ◌∙◌, arith}
use Rattle.std.proofs.lemmas.List.{take_all}
use Rattle.gv_terms.specs.declared.var.Var.{Var}
use Rattle.gv_specs.specs.Faults.{HasFieldFault}
use Rattle.gv_specs.specs.Names.{field_var, with_fields, with_var}
use Rattle.gv_specs.specs.Spelled.{IsField}
use Rattle.gv_specs.specs.Told.{Adds}
use Rattle.gv_specs.proofs.Firsts.{still_told}
use Rattle.gv_specs.proofs.Growing.{grows_not, grows_on, field_grows, vars_more}
use Rattle.gv_specs.proofs.Items.{adds_none, adds_item, adds_items, are_none, are_more, are_all, are_weaker}
use Rattle.gv_specs.proofs.fields.read_fields.Goals as goal

pub loop-tree-init : goal.loop-tree-init
loop-tree-init c = record {
  grows = grows_not c.args.store.now;
  scope = c.requires;
  noted = adds_none (λ i f. HasFieldFault c.args.text.now (with_fields c.args.text.now [] (take i c.args.trees.now)) f) c.args.trees.now c.args.first.now;
  read = λ e. are_none (λ i t f. IsField c.args.text.now c.args.store.now t f) c.args.trees.now _ c.new-fields.ensures.items;
}

pub loop-tree-preserved : goal.loop-tree-preserved
loop-tree-preserved c =
    let text = c.args.text.now in
    let trees = c.args.trees.now in
    let i = c.loop-tree.tree-index in
    let x = c.tree-item.result in
    let lt : i < length trees = omega arith in
    let old = c.loop-tree.store in
    let new = c.read_field.new.store in
    let noted : Adds (HasFieldFault text (with_fields text [] (take i trees)) x) c.loop-tree.first c.read_field.new.first =
    subst (λ (vs : List Var). Adds (HasFieldFault text vs x) c.loop-tree.first c.read_field.new.first) c.loop-tree.invariant.scope c.in_ok-field.ensures.noted in
    record {
      grows = grows_on c.args.store.now old new c.loop-tree.invariant.grows c.read_field.ensures.grows;
      scope = c.in_ok-field.ensures.scope ∙ ap (λ (vs : List Var). with_var vs (field_var text x)) c.loop-tree.invariant.scope ∙ sym (vars_more (field_var text) [] trees i x lt c.tree-item.is);
      noted = adds_item (λ k f. HasFieldFault text (with_fields text [] (take k trees)) f) trees i x c.args.first.now c.loop-tree.first c.read_field.new.first lt c.tree-item.is c.loop-tree.invariant.noted noted;
      read = λ e. are_more (λ k t f. IsField text new t f) trees i x c.loop-tree.fields.items _ c.in_ok-field.field lt c.tree-item.is
          (are_weaker (λ k t f. IsField text old t f) (λ k t f. IsField text new t f) trees i c.loop-tree.fields.items (λ k t f h. field_grows text old new t f c.read_field.ensures.grows h)
          (c.loop-tree.invariant.read (still_told (HasFieldFault text (with_fields text [] (take i trees)) x) c.loop-tree.first c.read_field.new.first noted e)))
          (c.in_ok-field.ensures.read e) c.in_ok-push.ensures.items;
    }

pub returns-clause-noted : goal.returns-clause-noted
returns-clause-noted c =
    adds_items (λ k f. HasFieldFault c.args.text.now (with_fields c.args.text.now [] (take k c.args.trees.now)) f) c.args.trees.now c.loop-tree.tree-index c.args.first.now c.loop-tree.first (omega arith) c.loop-tree.invariant.noted

pub returns-clause-read : goal.returns-clause-read
returns-clause-read c = λ e.
    are_all (λ k t f. IsField c.args.text.now c.loop-tree.store t f) c.args.trees.now c.loop-tree.tree-index c.loop-tree.fields.items (omega arith) (c.loop-tree.invariant.read e)

pub returns-clause-scope : goal.returns-clause-scope
returns-clause-scope c = c.loop-tree.invariant.scope ∙ ap (with_fields c.args.text.now []) (take_all c.loop-tree.tree-index c.args.trees.now (omega arith))
