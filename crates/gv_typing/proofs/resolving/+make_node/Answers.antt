use Rattle.std.proofs.Common.{◌≡◌, ℕ, List, None, Some, length, map, sym, ap, ◌∙◌, subst, arith}
use Rattle.gv_base.specs.Codes.{code_number}
use Rattle.gv_terms.specs.Store.{trees_at, AreIn}
use Rattle.gv_terms.specs.Resolving.{resolved}
use Rattle.gv_terms.specs.declared.tree.RawTerm.{RawTerm}
use Rattle.gv_terms.proofs.Grown.{one_more_in}
use Rattle.gv_terms.proofs.RawParts.{grows_on}
use Rattle.gv_text.specs.Answers.{IsFirst}
use Rattle.gv_typing.specs.Placing.{HasPlacedFault, IsCause}
use Rattle.gv_typing.specs.declared.term_fault.Fault.{Fault}
use Rattle.gv_typing.proofs.PlacedFaults.{Stand, PartFault, variable_err, apply_err, apply_tree, at_end, all_good, stand_good, stand_faulty, still_in, first_of_parts}
use Rattle.gv_typing.proofs.resolving.+make_node.Goals as goal
use Rattle.gv_typing.proofs.resolving.+make_node.Goals.{in-Ok+in_ok-push-in-Ok, in-Err-At}

pub returns-in-Variable-clause-cause : goal.returns-in-Variable-clause-cause
returns-in-Variable-clause-cause t c =
    variable_err c.args.scope.now c.in-Variable.name c.args.place.now c.args.term.now c.start_of.result c.make_variable.result c.in-Variable.is c.start_of.ensures c.make_variable.ensures.unknown

pub loop-i-preserved : goal.loop-i-preserved
loop-i-preserved t c = record {
  grows = grows_on c.args.store.now c.loop-i.store c.make_node.new.store c.loop-i.invariant.grows c.make_node.ensures.grows;
  within = elim c.match-make_node.branch [
    | in-Ok+in_ok-push-in-Ok w ↦
        subst (AreIn c.make_node.new.store) (sym (ap (λ v. v.items) w.terms-is ∙ w.in_ok-push-in-Ok.ensures.items))
        (one_more_in c.loop-i.store c.make_node.new.store c.loop-i.terms.items w.in-Ok.term c.loop-i.invariant.within c.make_node.ensures.grows w.in-Ok.ensures.within)
    | in-Err-At w ↦
        subst (λ v. AreIn c.make_node.new.store v.items) (sym w.terms-is)
        (still_in c.loop-i.store c.make_node.new.store c.loop-i.terms.items c.loop-i.invariant.within c.make_node.ensures.grows)
  ];
  stand = elim c.match-make_node.branch [
    | in-Ok+in_ok-push-in-Ok w ↦
        stand_good c.args.scope.now c.args.place.now c.as_slice-parts.result.now c.loop-i.i c.index-parts-i.result c.loop-i.first c.match-make_node.first
        c.loop-i.store c.make_node.new.store c.loop-i.terms.items c.match-make_node.terms.items w.in-Ok.term
        c.loop-i-test.true c.index-parts-i.is c.loop-i.invariant.within c.make_node.ensures.grows c.loop-i.invariant.stand w.in-Ok.ensures.tree
        (ap (λ v. v.items) w.terms-is ∙ w.in_ok-push-in-Ok.ensures.items) w.first-is
    | in-Err-At w ↦
        stand_faulty c.args.scope.now c.args.place.now c.place_below-below.result.now c.as_slice-parts.result.now c.loop-i.i c.index-parts-i.result c.loop-i.first c.match-make_node.first
        (trees_at c.loop-i.store c.loop-i.terms.items) (trees_at c.make_node.new.store c.match-make_node.terms.items)
        (record { start = w.in-Err-At.start; code = w.in-Err-At.code }) w.first_with.result
        c.loop-i-test.true c.index-parts-i.is c.place_below-below.ensures c.loop-i.invariant.stand
        (subst (IsCause (HasPlacedFault c.args.scope.now c.index-parts-i.result c.place_below-below.result.now)) w.in-Err-At.field-0-is w.in-Err-At.ensures.cause)
        w.first_with.ensures w.first-is
  ];
}

pub returns-in-Some-clause-cause : goal.returns-in-Some-clause-cause
returns-in-Some-clause-cause t c =
    let vars = c.args.scope.now in
    let p = c.args.place.now in
    let parts = c.in-Apply.parts in
    let ts = trees_at c.loop-i.store c.loop-i.terms.items in
    let end : length c.as_slice-parts.result.now ≡ c.loop-i.i = omega (arith, c.loop-i-test.false, c.loop-i.auto.i-end) in
    let stand = at_end vars p c.as_slice-parts.result.now parts c.loop-i.i c.loop-i.first ts end c.as_slice-parts.ensures c.loop-i.invariant.stand in
    let first : IsFirst code_number (PartFault vars p parts (length parts)) c.in-Some.fault.start c.in-Some.fault.code = subst (λ o. Stand vars p parts (length parts) o ts) c.in-Some.is stand in
    subst (IsCause (HasPlacedFault vars c.args.term.now p)) (sym c.from.ensures)
    (subst (λ (n : RawTerm). IsFirst code_number (HasPlacedFault vars n p) c.in-Some.fault.start c.in-Some.fault.code) (sym c.in-Apply.is)
    (first_of_parts vars c.in-Apply.operator parts p c.in-Some.fault.start c.in-Some.fault.code first))

pub returns-clause-tree : goal.returns-clause-tree
returns-clause-tree t c =
    let vars = c.args.scope.now in
    let p = c.args.place.now in
    let parts = c.in-Apply.parts in
    let ts = trees_at c.loop-i.store c.loop-i.terms.items in
    let end : length c.as_slice-parts.result.now ≡ c.loop-i.i = omega (arith, c.loop-i-test.false, c.loop-i.auto.i-end) in
    let stand = at_end vars p c.as_slice-parts.result.now parts c.loop-i.i c.loop-i.first ts end c.as_slice-parts.ensures c.loop-i.invariant.stand in
    let all : map (resolved vars) parts ≡ map Some ts = all_good vars p parts ts (subst (λ o. Stand vars p parts (length parts) o ts) c.in-None.is stand) in
    apply_tree vars c.in-Apply.operator parts c.args.term.now ts c.make_apply.new.store c.make_apply.result c.in-Apply.is all c.make_apply.ensures.made c.make_apply.ensures.sorted

pub returns-clause-cause : goal.returns-clause-cause
returns-clause-cause t c =
    let vars = c.args.scope.now in
    let p = c.args.place.now in
    let parts = c.in-Apply.parts in
    let ts = trees_at c.loop-i.store c.loop-i.terms.items in
    let end : length c.as_slice-parts.result.now ≡ c.loop-i.i = omega (arith, c.loop-i-test.false, c.loop-i.auto.i-end) in
    let stand = at_end vars p c.as_slice-parts.result.now parts c.loop-i.i c.loop-i.first ts end c.as_slice-parts.ensures c.loop-i.invariant.stand in
    let all : map (resolved vars) parts ≡ map Some ts = all_good vars p parts ts (subst (λ o. Stand vars p parts (length parts) o ts) c.in-None.is stand) in
    apply_err vars c.in-Apply.operator parts p c.args.term.now ts c.start_of-in-None.result c.make_apply.result c.in-Apply.is all c.start_of-in-None.ensures c.make_apply.ensures.unsorted
