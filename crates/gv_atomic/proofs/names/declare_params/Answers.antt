use Rattle.std.proofs.Common.{◌≡◌, List, [], ◌∷◌, ◌++◌, length, take, drop, ◌-◌, sym, ap, ◌∙◌}
use Rattle.gv_terms.specs.declared.var.Var.{Var}
use Rattle.gv_atomic.specs.Typed.{are_names, names_of}
use Rattle.gv_atomic.proofs.OneByOne.{declared_more, declared_stop, declared_next, split_first, on_true}
use Rattle.gv_atomic.proofs.names.declare_params.Goals as goal

pub returns-then-not-branch-clause-told : goal.returns-then-not-branch-clause-told
returns-then-not-branch-clause-told c =
    let left = c.loop-left.left.now in
    let v = c.param-item.result in
    let is : left ≡ v ∷ take (length left - 1) (drop 1 left) = split_first left v c.in-len1-up.len_at_least c.param-item.is in
    sym (declared_stop c.args.fields.now c.loop-left.own (take (length left - 1) (drop 1 left)) (c.args.own.now ++ c.args.params.now) v
    (ap (λ (vs : List Var). c.loop-left.own ++ vs) (sym is) ∙ c.loop-left.invariant.whole)
    (sym c.in_ok-declare.ensures.told ∙ c.if-not-branch.true))

pub loop-left-preserved : goal.loop-left-preserved
loop-left-preserved c =
    let left = c.loop-left.left.now in
    let v = c.param-item.result in
    let is : left ≡ v ∷ take (length left - 1) (drop 1 left) = split_first left v c.in-len1-up.len_at_least c.param-item.is in
    let added : c.declare.new.own ≡ c.loop-left.own ++ v ∷ [] = on_true c.in_ok-declare.field-0 (c.declare.new.own ≡ c.loop-left.own ++ v ∷ []) c.in_ok-declare.ensures.added c.if-not-branch.false in
    record {
      names = ap (λ (vs : List Var). are_names (names_of (c.args.fields.now ++ vs))) added
          ∙ declared_more c.args.fields.now c.loop-left.own v c.loop-left.invariant.names (sym c.in_ok-declare.ensures.told ∙ c.if-not-branch.false);
      whole = declared_next c.loop-left.own c.declare.new.own (take (length left - 1) (drop 1 left)) (c.args.own.now ++ c.args.params.now) v
          (ap (λ (vs : List Var). c.loop-left.own ++ vs) (sym is) ∙ c.loop-left.invariant.whole) added;
    }
