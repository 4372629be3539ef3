use Rattle.std.proofs.Common.{List, [], None, ◌≡◌, take, sym, subst, ◌∙◌, ap}
use Rattle.gv_terms.specs.declared.var.Var.{Var}
use Rattle.gv_atomic.specs.declared.spec.Field.{Field}
use Rattle.gv_atomic.specs.declared.spec.Op.{Op}
use Rattle.gv_specread.specs.declared.tree.FieldTree.{FieldTree}
use Rattle.gv_specread.specs.declared.tree.OpTree.{OpTree}
use Rattle.gv_specs.specs.Bodies.{IsMadeBody}
use Rattle.gv_specs.specs.Faults.{HasFieldFault, HasOpFault, HasBodyFault}
use Rattle.gv_specs.specs.FieldTable.{entry_in}
use Rattle.gv_specs.specs.Names.{Named, field_named, with_fields, with_ops}
use Rattle.gv_specs.specs.Spelled.{IsField, IsOp}
use Rattle.gv_specs.specs.Told.{HasItemFault, Adds, AreEach}
use Rattle.gv_specs.proofs.Firsts.{still_told}
use Rattle.gv_specs.proofs.Growing.{grows_on, field_grows, op_grows}
use Rattle.gv_specs.proofs.Items.{each_weaker}
use Rattle.gv_specs.proofs.Noted.{whole_noted, table_names}
use Rattle.gv_specs.proofs.reading.read_parts.Goals as goal

pub returns-clause-noted : goal.returns-clause-noted
returns-clause-noted c =
    let text = c.args.text.now in
    let tree = c.args.tree.now in
    let first0 = c.args.first.now in
    let first1 = c.read_disks-disks.new.first in
    let first2 = c.read_fields.new.first in
    let first3 = c.read_ops.new.first in
    let first4 = c.read_body.new.first in
    let vars1 = c.read_fields.new.vars in
    let vars2 = c.read_ops.new.vars in
    let scope : vars1 ≡ with_fields text [] tree.fields = c.in_ok-fields.ensures.scope ∙ ap (with_fields text []) c.as_slice-trees.ensures in
    let later : vars2 ≡ with_fields text [] tree.fields = c.in_ok-ops.ensures.scope ∙ scope in
    let named : entry_in c.in_ok-table.table ≡ field_named text tree.fields = table_names text c.as_slice-trees.result.now c.in_ok-table.table c.in_ok-table.ensures ∙ ap (field_named text) c.as_slice-trees.ensures in
    whole_noted text tree first0 first1 first2 first3 first4
    c.read_disks-disks.ensures.noted
    (subst (λ (fs : List FieldTree). Adds (HasItemFault (λ i f. HasFieldFault text (with_fields text [] (take i fs)) f) fs) first1 first2) c.as_slice-trees.ensures c.in_ok-fields.ensures.noted)
    (subst (λ (os : List OpTree). Adds (HasItemFault (λ i o. HasOpFault text (field_named text tree.fields) (with_fields text [] tree.fields) (with_ops text [] (take i os)) o) os) first2 first3) c.as_slice-written.ensures
    (subst (λ (vs : List Var). Adds (HasItemFault (λ i o. HasOpFault text (field_named text tree.fields) vs (with_ops text [] (take i c.as_slice-written.result.now)) o) c.as_slice-written.result.now) first2 first3) scope
    (subst (λ (n : Named). Adds (HasItemFault (λ i o. HasOpFault text n vars1 (with_ops text [] (take i c.as_slice-written.result.now)) o) c.as_slice-written.result.now) first2 first3) named c.in_ok-ops.ensures.noted)))
    (subst (λ (vs : List Var). Adds (HasBodyFault text (field_named text tree.fields) vs None tree.crash) first3 first4) later
    (subst (λ (n : Named). Adds (HasBodyFault text n vars2 None tree.crash) first3 first4) named c.in_ok-crash.ensures.noted))

pub returns-clause-read : goal.returns-clause-read
returns-clause-read c = λ e.
    let text = c.args.text.now in
    let tree = c.args.tree.now in
    let first1 = c.read_disks-disks.new.first in
    let first2 = c.read_fields.new.first in
    let first3 = c.read_ops.new.first in
    let vars1 = c.read_fields.new.vars in
    let vars2 = c.read_ops.new.vars in
    let store1 = c.read_fields.new.store in
    let store2 = c.read_ops.new.store in
    let store3 = c.read_body.new.store in
    let trees = c.as_slice-trees.result.now in
    let written = c.as_slice-written.result.now in
    let scope : vars1 ≡ with_fields text [] tree.fields = c.in_ok-fields.ensures.scope ∙ ap (with_fields text []) c.as_slice-trees.ensures in
    let later : vars2 ≡ with_fields text [] tree.fields = c.in_ok-ops.ensures.scope ∙ scope in
    let named : entry_in c.in_ok-table.table ≡ field_named text tree.fields = table_names text trees c.in_ok-table.table c.in_ok-table.ensures ∙ ap (field_named text) c.as_slice-trees.ensures in
    let e3 = still_told (HasBodyFault text (entry_in c.in_ok-table.table) vars2 None tree.crash) first3 c.read_body.new.first c.in_ok-crash.ensures.noted e in
    let e2 = still_told (HasItemFault (λ i o. HasOpFault text (entry_in c.in_ok-table.table) vars1 (with_ops text [] (take i written)) o) written) first2 first3 c.in_ok-ops.ensures.noted e3 in
    let e1 = still_told (HasItemFault (λ i f. HasFieldFault text (with_fields text [] (take i trees)) f) trees) first1 first2 c.in_ok-fields.ensures.noted e2 in
    let fields : AreEach (λ i t f. IsField text store3 t f) tree.fields c.in_ok-fields.fields.items =
    each_weaker (λ i t f. IsField text store1 t f) (λ i t f. IsField text store3 t f) tree.fields c.in_ok-fields.fields.items
    (λ i t f h. field_grows text store1 store3 t f (grows_on store1 store2 store3 c.read_ops.ensures.grows c.read_body.ensures.grows) h)
    (subst (λ (fs : List FieldTree). AreEach (λ i t f. IsField text store1 t f) fs c.in_ok-fields.fields.items) c.as_slice-trees.ensures (c.in_ok-fields.ensures.read e2)) in
    let made : AreEach (λ i t o. IsOp text store2 (field_named text tree.fields) (with_fields text [] tree.fields) t o) tree.ops c.in_ok-ops.ops.items =
    subst (λ (os : List OpTree). AreEach (λ i t o. IsOp text store2 (field_named text tree.fields) (with_fields text [] tree.fields) t o) os c.in_ok-ops.ops.items) c.as_slice-written.ensures
    (subst (λ (vs : List Var). AreEach (λ i t o. IsOp text store2 (field_named text tree.fields) vs t o) written c.in_ok-ops.ops.items) scope
    (subst (λ (n : Named). AreEach (λ i t o. IsOp text store2 n vars1 t o) written c.in_ok-ops.ops.items) named (c.in_ok-ops.ensures.read e3))) in
    let ops : AreEach (λ i t o. IsOp text store3 (field_named text tree.fields) (with_fields text [] tree.fields) t o) tree.ops c.in_ok-ops.ops.items =
    each_weaker (λ i t o. IsOp text store2 (field_named text tree.fields) (with_fields text [] tree.fields) t o) (λ i t o. IsOp text store3 (field_named text tree.fields) (with_fields text [] tree.fields) t o) tree.ops c.in_ok-ops.ops.items
    (λ i t o h. op_grows text store2 store3 (field_named text tree.fields) (with_fields text [] tree.fields) t o c.read_body.ensures.grows h) made in
    record {
      its_disks = c.read_disks-disks.ensures.read e1;
      fields = subst (λ (fs : List Field). AreEach (λ i t f. IsField text store3 t f) tree.fields fs) (sym c.from_vec.ensures) fields;
      ops = subst (λ (os : List Op). AreEach (λ i t o. IsOp text store3 (field_named text tree.fields) (with_fields text [] tree.fields) t o) tree.ops os) (sym c.from_vec-2.ensures) ops;
      crash = subst (λ (vs : List Var). IsMadeBody text store3 (field_named text tree.fields) vs tree.crash c.in_ok-crash.crash) later
          (subst (λ (n : Named). IsMadeBody text store3 n vars2 tree.crash c.in_ok-crash.crash) named (c.in_ok-crash.ensures.read e));
    }
