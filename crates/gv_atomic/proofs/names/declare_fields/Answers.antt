use Rattle.std.proofs.Common.{◌≡◌, List, [], ◌∷◌, ◌++◌, length, take, drop, ◌-◌, map, sym, ap, ◌∙◌}
use Rattle.gv_terms.specs.declared.var.Var.{Var}
use Rattle.gv_atomic.specs.declared.spec.Field.{Field}
use Rattle.gv_atomic.specs.Typed.{are_names, names_of, var_of}
use Rattle.gv_atomic.specs.Marks.{is_new}
use Rattle.gv_atomic.proofs.OneByOne.{declared_more, declared_stop, declared_next, split_first, on_true}
use Rattle.gv_atomic.proofs.names.declare_fields.Goals as goal

pub returns-then-not-branch-clause-told : goal.returns-then-not-branch-clause-told
returns-then-not-branch-clause-told c =
    let left = c.loop-left.left.now in
    let f = c.field-item.result in
    let is : left ≡ f ∷ take (length left - 1) (drop 1 left) = split_first left f c.in-len1-up.len_at_least c.field-item.is in
    sym (declared_stop [] c.loop-left.own (map var_of (take (length left - 1) (drop 1 left))) (c.args.own.now ++ map var_of c.args.fields.now) (var_of f)
    (ap (λ (fs : List Field). c.loop-left.own ++ map var_of fs) (sym is) ∙ c.loop-left.invariant.whole)
    (ap (λ (vs : List Var). is_new (names_of (vs ++ c.loop-left.own)) f.name) (sym c.new-none.ensures) ∙ sym c.in_ok-declare.ensures.told ∙ c.if-not-branch.true))

pub loop-left-preserved : goal.loop-left-preserved
loop-left-preserved c =
    let left = c.loop-left.left.now in
    let f = c.field-item.result in
    let is : left ≡ f ∷ take (length left - 1) (drop 1 left) = split_first left f c.in-len1-up.len_at_least c.field-item.is in
    let added : c.declare.new.own ≡ c.loop-left.own ++ var_of f ∷ [] = on_true c.in_ok-declare.field-0 (c.declare.new.own ≡ c.loop-left.own ++ var_of f ∷ []) c.in_ok-declare.ensures.added c.if-not-branch.false in
    record {
      names = ap (λ (vs : List Var). are_names (names_of vs)) added
          ∙ declared_more [] c.loop-left.own (var_of f) c.loop-left.invariant.names
          (ap (λ (vs : List Var). is_new (names_of (vs ++ c.loop-left.own)) f.name) (sym c.new-none.ensures) ∙ sym c.in_ok-declare.ensures.told ∙ c.if-not-branch.false);
      whole = declared_next c.loop-left.own c.declare.new.own (map var_of (take (length left - 1) (drop 1 left))) (c.args.own.now ++ map var_of c.args.fields.now) (var_of f)
          (ap (λ (fs : List Field). c.loop-left.own ++ map var_of fs) (sym is) ∙ c.loop-left.invariant.whole) added;
    }
