use Rattle.std.proofs.Common.{◌≡◌, ◌<◌, ℕ, List, [], Option, None, length, get_or, sym, ap, subst, ◌∙◌, arith}
use Rattle.std.specs.Prelude.{replicate}
use Rattle.std.specs.Global.{Vec}
use Rattle.gv_cycles.specs.Leading.{lists_of}
use Rattle.gv_cycles.specs.Order.{IsOrder}
use Rattle.gv_operands.specs.declared.types.Class.{Class}
use Rattle.gv_gonamed.specs.Laws.{with_these}
use Rattle.gv_goseen.specs.Seen.{env_of, package_of, source_of}
use Rattle.gv_goconsts.specs.Constants.{names_of}
use Rattle.gv_goconsts.proofs.Lists.{length_names}
use Rattle.gv_goconsts.proofs.Walks.{as_many, with_classes, seen_with, names_without}
use Rattle.gv_goconsts.proofs.settling.settle_constants.Goals as goal

pub settle_in-requires-clause-ranged : goal.settle_in-requires-clause-ranged
settle_in-requires-clause-ranged c = λ i d l.
    let env = env_of c.args.seen.now in
    let cs = c.requires.some.trees in
    let rows = c.in_ok-rows.rows.items in
    let order = c.in_ok-order.order.items in
    let o = subst (λ (vs : List (Vec ℕ)). IsOrder (lists_of vs) order) c.deref.ensures.value c.in_ok-order.ensures in
    let e : c.deref-2.result.now ≡ order = c.deref-2.ensures.value in
    let r = o.ranged i d (subst (λ (xs : List ℕ). i < length xs) e l) in
    let many : length (lists_of rows) ≡ length c.args.constants.now
    = ap (λ (ns : List (List ℕ)). length ns) (c.in_ok-rows.ensures cs c.requires.some.there)
    ∙ (length_names env cs ∙ sym (as_many c.args.nodes.now c.args.constants.now cs c.requires.some.there)) in
    subst (λ (xs : List ℕ). get_or xs i d < length c.args.constants.now) (sym e) (omega (arith, r, many))

pub returns-clause-settled : goal.returns-clause-settled
returns-clause-settled c = λ cs h.
    let env = env_of c.args.seen.now in
    let s = source_of c.args.seen.now in
    let p = package_of c.args.seen.now.declared in
    let ks = c.args.seen.now.declared.constants.items in
    let order = c.in_ok-order.order.items in
    let none = replicate (length c.args.constants.now) None in
    let o = subst (λ (vs : List (Vec ℕ)). IsOrder (lists_of vs) order) c.deref.ensures.value c.in_ok-order.ensures in
    let named : lists_of c.in_ok-rows.rows.items ≡ names_of (with_these s p []) cs = c.in_ok-rows.ensures cs h ∙ names_without s p ks env cs c.requires.outside in
    c.settle_in.ensures.settled s p cs h
    (seen_with env (with_classes env c.in_ok-nothing.nothing.items) s p ks none c.requires.outside
    (ap (λ (js : List (Option Class)). with_classes env js) c.in_ok-nothing.ensures))
    (subst (λ (xs : List ℕ). IsOrder (names_of (with_these s p []) cs) xs) (sym c.deref-2.ensures.value)
    (subst (λ (ns : List (List ℕ)). IsOrder ns order) named o))
