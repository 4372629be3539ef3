use Rattle.std.proofs.Common.{◌≡◌, Some, sym, ap, ◌∙◌, subst}
use Rattle.std.specs.Prelude.{slice_range}
use Rattle.gv_terms.specs.Store.{tree_at, trees_at, AreIn}
use Rattle.gv_axioms.specs.declared.generated.table.TheConstants.{KINDS, PREMISES}
use Rattle.gv_axioms.specs.Filling.{all_fit}
use Rattle.gv_axioms.specs.Instances.{instance_of}
use Rattle.gv_axioms.specs.Steps.{formula_by, asked_by}
use Rattle.gv_axioms.proofs.AllTrue.{instances_are_true}
use Rattle.gv_axioms.proofs.Places.{are_terms}
use Rattle.gv_axioms.proofs.Refused.{bad_kept}
use Rattle.gv_axioms.proofs.Runs.{none_unfit, none_asked, none_given, all_given}
use Rattle.gv_axioms.proofs.Stacks.{in_grown, same_trees}
use Rattle.gv_axioms.proofs.instances.instance.Goals as goal

pub returns-then-not-all_fit-clause-cause : goal.returns-then-not-all_fit-clause-cause
returns-then-not-all_fit-clause-cause c bad =
    let ts = trees_at c.args.store.now c.args.parts.now in
    let row = c.in-Some.row in
    let h = c.in-Some.ensures.some in
    let kinds : c.of.result.now ≡ slice_range KINDS row.kinds.from row.kinds.to = c.of.ensures in
    none_unfit ts c.args.number row h.0 h.1 h.2 (ap (all_fit ts ts) (sym kinds) ∙ sym c.all_fit.ensures.value ∙ c.if-not-all_fit.true)

pub returns-in_err-premises-clause-cause : goal.returns-in_err-premises-clause-cause
returns-in_err-premises-clause-cause c =
    let ts = trees_at c.args.store.now c.args.parts.now in
    let row = c.in-Some.row in
    let h = c.in-Some.ensures.some in
    let premises : c.of-2.result.now ≡ slice_range PREMISES row.premises.from row.premises.to = c.of-2.ensures in
    bad_kept c.from_residual.result c.in_err-premises.field-0.0 (asked_by ts c.of-2.result.now) (instance_of c.args.number ts) c.from_residual.ensures.1 c.in_err-premises.ensures.cause
    (λ none. none_asked ts c.args.number row h.0 h.1 h.2 (ap (asked_by ts) (sym premises) ∙ none))

pub returns-in_err-conclusion-clause-cause : goal.returns-in_err-conclusion-clause-cause
returns-in_err-conclusion-clause-cause c =
    let ts = trees_at c.args.store.now c.args.parts.now in
    let row = c.in-Some.row in
    let h = c.in-Some.ensures.some in
    let same : trees_at c.asked.new.store c.args.parts.now ≡ ts = same_trees c.args.store.now c.asked.new.store c.args.parts.now c.requires c.asked.ensures.grows in
    bad_kept c.from_residual-in_err-conclusion.result c.in_err-conclusion.field-0.0 (formula_by ts row.conclusion) (instance_of c.args.number ts) c.from_residual-in_err-conclusion.ensures.1
    (λ bad. ap (λ us. formula_by us row.conclusion) (sym same) ∙ c.in_err-conclusion.ensures.cause bad) (none_given ts c.args.number row h.0 h.1 h.2)

pub returns-clause-within : goal.returns-clause-within
returns-clause-within c = (
  subst (AreIn c.formula.new.store) (sym c.from_vec.ensures)
      (in_grown c.asked.new.store c.formula.new.store c.in_ok-premises.premises.items c.in_ok-premises.ensures.within c.formula.ensures.grows),
  c.in_ok-conclusion.ensures.within,
)

pub returns-clause-exact : goal.returns-clause-exact
returns-clause-exact c =
    let ts = trees_at c.args.store.now c.args.parts.now in
    let row = c.in-Some.row in
    let h = c.in-Some.ensures.some in
    let now = c.formula.new.store in
    let items = c.in_ok-premises.premises.items in
    let kinds : c.of.result.now ≡ slice_range KINDS row.kinds.from row.kinds.to = c.of.ensures in
    let premises : c.of-2.result.now ≡ slice_range PREMISES row.premises.from row.premises.to = c.of-2.ensures in
    let same : trees_at c.asked.new.store c.args.parts.now ≡ ts = same_trees c.args.store.now c.asked.new.store c.args.parts.now c.requires c.asked.ensures.grows in
    let kept : trees_at now c.from_vec.result ≡ trees_at c.asked.new.store items =
    ap (trees_at now) c.from_vec.ensures ∙ same_trees c.asked.new.store now items c.in_ok-premises.ensures.within c.formula.ensures.grows in
    all_given ts c.args.number row h.0 h.1 h.2 (ap (all_fit ts ts) (sym kinds) ∙ sym c.all_fit.ensures.value ∙ c.if-not-all_fit.false)
    (trees_at now c.from_vec.result) (tree_at now c.in_ok-conclusion.conclusion.id)
    (ap (asked_by ts) (sym premises) ∙ c.in_ok-premises.ensures.made ∙ ap Some (sym kept))
    (ap (λ us. formula_by us row.conclusion) (sym same) ∙ c.in_ok-conclusion.ensures.made)

pub returns-clause-truth : goal.returns-clause-truth
returns-clause-truth c =
    let store = c.args.store.now in
    let parts = c.args.parts.now in
    instances_are_true c.args.number (trees_at store parts) (trees_at c.formula.new.store c.from_vec.result) (tree_at c.formula.new.store c.in_ok-conclusion.conclusion.id)
    (are_terms store parts c.requires (c.all_fit.ensures.sorted c.if-not-all_fit.false) c.numbers_are_words.ensures) (returns-clause-exact c)
