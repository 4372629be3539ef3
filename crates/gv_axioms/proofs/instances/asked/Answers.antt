use Rattle.std.proofs.Common.{◌≡◌, None, Some, ◌+◌, ◌++◌, drop, get_or, true, sym, ap, ◌∙◌, subst}
use Rattle.std.proofs.lemmas.List.{get_or_default}
use Rattle.gv_terms.specs.Store.{trees_at, AreIn, Grows}
use Rattle.gv_terms.proofs.RawParts.{grows_on}
use Rattle.gv_axioms.specs.declared.row.Premise.{Premise as Asked}
use Rattle.gv_axioms.specs.Filling.{with_some}
use Rattle.gv_axioms.specs.Instances.{is_asked}
use Rattle.gv_axioms.specs.Steps.{formula_by, asked_by}
use Rattle.gv_axioms.proofs.Refused.{bad_kept}
use Rattle.gv_axioms.proofs.Stacks.{asked_more, asked_skip, asked_none, one_more_in, same_trees}
use Rattle.gv_axioms.proofs.instances.asked.Goals.{then-asks+in_ok-term+in_ok-push, else-asks}
use Rattle.gv_axioms.proofs.instances.asked.Goals as goal

abbrev no_premise : Asked
no_premise = record { bytes = None; steps = record { from = 0; to = 0 } }

pub returns-in_err-term-clause-cause : goal.returns-in_err-term-clause-cause
returns-in_err-term-clause-cause c =
    let ts = trees_at c.args.store.now c.args.parts.now in
    let rows = c.args.premises.now in
    let p = get_or rows c.loop-i.i no_premise in
    let same : trees_at c.loop-i.store c.args.parts.now ≡ ts = same_trees c.args.store.now c.loop-i.store c.args.parts.now c.requires c.loop-i.invariant.grows in
    let on : is_asked ts p.bytes ≡ true = ap (λ us. is_asked us p.bytes) (sym same) ∙ sym c.asks.ensures ∙ c.if-asks.true in
    bad_kept c.from_residual.result c.in_err-term.field-0.0 (formula_by ts p.steps) (asked_by ts rows) c.from_residual.ensures.1
    (λ bad. ap (λ us. formula_by us p.steps) (sym same) ∙ c.in_err-term.ensures.cause bad)
    (λ none. asked_none ts rows c.loop-i.i p (trees_at c.loop-i.store c.loop-i.terms.items) c.loop-i-test.true (get_or_default rows c.loop-i.i no_premise p c.loop-i-test.true) on none c.loop-i.invariant.stand)

pub returns-in_err-push-clause-grows : goal.returns-in_err-push-clause-grows
returns-in_err-push-clause-grows c = grows_on c.args.store.now c.loop-i.store c.formula.new.store c.loop-i.invariant.grows c.formula.ensures.grows

pub loop-i-preserved : goal.loop-i-preserved
loop-i-preserved c =
    let old = c.args.store.now in
    let ts = trees_at old c.args.parts.now in
    let rows = c.args.premises.now in
    let p = get_or rows c.loop-i.i no_premise in
    let rest = asked_by ts (drop (c.loop-i.i + 1) rows) in
    let is : p ≡ get_or rows c.loop-i.i p = get_or_default rows c.loop-i.i no_premise p c.loop-i-test.true in
    let same : trees_at c.loop-i.store c.args.parts.now ≡ ts = same_trees old c.loop-i.store c.args.parts.now c.requires c.loop-i.invariant.grows in
    let asks : c.asks.result ≡ is_asked ts p.bytes = c.asks.ensures ∙ ap (λ us. is_asked us p.bytes) same in
    elim c.if-asks.branch [
      | then-asks+in_ok-term+in_ok-push w ↦ (
          let new = w.formula.new.store in
          record {
            grows = subst (Grows old) (sym w.store-is) (grows_on old c.loop-i.store new c.loop-i.invariant.grows w.formula.ensures.grows);
            within =
                subst (λ st. AreIn st c.if-asks.terms.items) (sym w.store-is) (subst (λ v. AreIn new v.items) (sym w.terms-is)
                (one_more_in c.loop-i.store new c.loop-i.terms.items w.push.new.self.items w.in_ok-term.term c.loop-i.invariant.within w.formula.ensures.grows w.in_ok-term.ensures.within w.in_ok-push.ensures.items));
            stand =
                asked_more ts rows c.loop-i.i p c.loop-i.store new c.loop-i.terms.items w.push.new.self.items w.in_ok-term.term c.loop-i-test.true is (sym asks ∙ w.if-asks.true)
                (ap (λ us. formula_by us p.steps) (sym same) ∙ w.in_ok-term.ensures.made) c.loop-i.invariant.within w.formula.ensures.grows w.in_ok-push.ensures.items c.loop-i.invariant.stand
                ∙ ap (λ st. with_some rest (λ us. Some (trees_at st w.push.new.self.items ++ us))) (sym w.store-is)
                ∙ ap (λ v. with_some rest (λ us. Some (trees_at c.if-asks.store v.items ++ us))) (sym w.terms-is);
          })
      | else-asks w ↦ (
          record {
            grows = subst (Grows old) (sym w.store-is) c.loop-i.invariant.grows;
            within = subst (λ st. AreIn st c.if-asks.terms.items) (sym w.store-is) (subst (λ v. AreIn c.loop-i.store v.items) (sym w.terms-is) c.loop-i.invariant.within);
            stand =
                asked_skip ts rows c.loop-i.i p (trees_at c.loop-i.store c.loop-i.terms.items) c.loop-i-test.true is (sym asks ∙ w.if-asks.false) c.loop-i.invariant.stand
                ∙ ap (λ st. with_some rest (λ us. Some (trees_at st c.loop-i.terms.items ++ us))) (sym w.store-is)
                ∙ ap (λ v. with_some rest (λ us. Some (trees_at c.if-asks.store v.items ++ us))) (sym w.terms-is);
          })
    ]
