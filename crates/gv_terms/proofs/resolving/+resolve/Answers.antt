use Rattle.std.proofs.Common.{◌≡◌, ℕ, List, IfOk, length, sym, ap, ◌∙◌, subst, arith}
use Rattle.gv_base.specs.declared.answers.Code.{Code}
use Rattle.gv_terms.specs.Store.{trees_at, AreIn}
use Rattle.gv_terms.specs.Resolving.{HasFault, IsCause, IsFirstFault}
use Rattle.gv_terms.specs.declared.tree.RawTerm.TheVariants as raw
use Rattle.gv_terms.proofs.Grown.{one_more_in}
use Rattle.gv_terms.proofs.RawFaults.{ok_sorted, ok_closed, ok_faultless, ok_tree, err_own}
use Rattle.gv_terms.proofs.RawParts.{grows_on, good_part, faulty_part, at_end}
use Rattle.gv_terms.proofs.resolving.+resolve.Goals as goal

pub loop-i-preserved : goal.loop-i-preserved
loop-i-preserved t c = record {
  grows = grows_on c.args.store.now c.loop-i.store c.resolve.new.store c.loop-i.invariant.grows c.resolve.ensures.grows;
  within = subst (AreIn c.resolve.new.store) (sym c.in_ok-push-in-Ok.ensures.items)
      (one_more_in c.loop-i.store c.resolve.new.store c.loop-i.terms.items c.in-Ok.term c.loop-i.invariant.within c.resolve.ensures.grows c.in-Ok.ensures.within);
  stand = good_part c.args.scope.now c.as_slice-parts.result.now c.loop-i.i c.index-parts-i.result
      c.loop-i.store c.resolve.new.store c.loop-i.terms.items c.push.new.self.items c.in-Ok.term
      c.loop-i-test.true c.index-parts-i.is c.loop-i.invariant.within c.resolve.ensures.grows c.loop-i.invariant.stand c.in-Ok.ensures.tree
      c.in_ok-push-in-Ok.ensures.items;
}

pub returns-in-Err-At-clause-cause : goal.returns-in-Err-At-clause-cause
returns-in-Err-At-clause-cause t c =
    let vars = c.args.scope.now in
    let part = c.index-parts-i.result in
    let first : IsFirstFault vars part c.in-Err-At.path c.in-Err-At.code = subst (IsCause vars part) c.in-Err-At.field-0-is c.in-Err-At.ensures.cause in
    subst (λ n. IsCause vars n c.of_part.result) (sym (c.in-Apply.is ∙ ap (λ ps. raw.Apply c.in-Apply.operator ps) (sym c.as_slice-parts.ensures)))
    (faulty_part vars c.in-Apply.operator c.as_slice-parts.result.now c.loop-i.i part (trees_at c.loop-i.store c.loop-i.terms.items) c.in-Err-At.path c.in-Err-At.code c.of_part.result
    c.loop-i-test.true c.index-parts-i.is c.loop-i.invariant.stand first c.in-Err-At.path-is c.in-Err-At.code-is c.of_part.ensures)

pub returns-in-Variable-clause-sorted : goal.returns-in-Variable-clause-sorted
returns-in-Variable-clause-sorted t c =
    ok_sorted c.args.scope.now (raw.Variable c.in-Variable.name) c.resolve_variable.new.store c.resolve_variable.result c.resolve_variable.ensures.tree

pub returns-in-Variable-clause-closed : goal.returns-in-Variable-clause-closed
returns-in-Variable-clause-closed t c =
    ok_closed c.args.scope.now (raw.Variable c.in-Variable.name) c.resolve_variable.new.store c.resolve_variable.result c.resolve_variable.ensures.tree

pub returns-in-Variable-clause-faultless : goal.returns-in-Variable-clause-faultless
returns-in-Variable-clause-faultless t c =
    subst (λ n. IfOk c.resolve_variable.result (λ t. (path : List ℕ) (d : Code) → HasFault c.args.scope.now n path d → ⊥)) (sym c.in-Variable.is)
    (ok_faultless c.args.scope.now (raw.Variable c.in-Variable.name) c.resolve_variable.new.store c.resolve_variable.result c.resolve_variable.ensures.tree)

pub returns-after-loop-i-clause-tree : goal.returns-after-loop-i-clause-tree
returns-after-loop-i-clause-tree t c =
    let vars = c.args.scope.now in
    let parts = c.in-Apply.parts in
    let ts = trees_at c.loop-i.store c.loop-i.terms.items in
    let end : length c.as_slice-parts.result.now ≡ c.loop-i.i = omega (arith, c.loop-i-test.false, c.loop-i.auto.i-end) in
    let all = at_end vars c.as_slice-parts.result.now parts c.loop-i.i ts end c.as_slice-parts.ensures c.loop-i.invariant.stand in
    ok_tree vars c.in-Apply.operator parts c.args.term.now ts c.resolve_apply.new.store c.resolve_apply.result c.in-Apply.is all c.resolve_apply.ensures.made c.resolve_apply.ensures.sorted

pub returns-after-loop-i-clause-closed : goal.returns-after-loop-i-clause-closed
returns-after-loop-i-clause-closed t c =
    ok_closed c.args.scope.now c.args.term.now c.resolve_apply.new.store c.resolve_apply.result (returns-after-loop-i-clause-tree t c)

pub returns-after-loop-i-clause-faultless : goal.returns-after-loop-i-clause-faultless
returns-after-loop-i-clause-faultless t c =
    ok_faultless c.args.scope.now c.args.term.now c.resolve_apply.new.store c.resolve_apply.result (returns-after-loop-i-clause-tree t c)

pub returns-after-loop-i-clause-cause : goal.returns-after-loop-i-clause-cause
returns-after-loop-i-clause-cause t c =
    let vars = c.args.scope.now in
    let parts = c.in-Apply.parts in
    let ts = trees_at c.loop-i.store c.loop-i.terms.items in
    let end : length c.as_slice-parts.result.now ≡ c.loop-i.i = omega (arith, c.loop-i-test.false, c.loop-i.auto.i-end) in
    let all = at_end vars c.as_slice-parts.result.now parts c.loop-i.i ts end c.as_slice-parts.ensures c.loop-i.invariant.stand in
    err_own vars c.in-Apply.operator parts c.args.term.now ts c.resolve_apply.result c.in-Apply.is all c.resolve_apply.ensures.cause
