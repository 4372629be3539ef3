use Rattle.std.proofs.Common.{◌∷◌, [], drop, get_or, ◌+◌, sym, subst, ◌∙◌}
use Rattle.gv_terms.specs.Store.{tree_at, trees_at}
use Rattle.gv_terms.proofs.RawParts.{grows_on}
use Rattle.gv_certs.specs.declared.cause.Cause.TheVariants as cause
use Rattle.gv_certs.specs.Proving.{AllHold, asks}
use Rattle.gv_side.specs.Telling.{IsFault}
use Rattle.gv_side.proofs.Lists.{handed_on, fault_first, fault_later, all_more}
use Rattle.gv_sums.specs.Telling.{is_sum_of}
use Rattle.gv_sums.proofs.Parts.{none, sums_asked, from_here, sum_kept}
use Rattle.gv_sums.proofs.whole_sums.ask_sums.Goals as goal

pub returns-in_err-ask-clause-cause : goal.returns-in_err-ask-clause-cause
returns-in_err-ask-clause-cause c =
    let old = c.args.store.now in
    let mid = c.loop-i.store in
    let facts = c.args.facts.now in
    let sums = c.args.sums.now in
    let t = get_or sums c.loop-i.i none in
    let known = trees_at old facts in
    let rest = sums_asked known old (drop (c.loop-i.i + 1) sums) in
    let e = c.in_err-ask.field-0.0 in
    let told = c.in_ok-is_sum.ensures.told ∙ sum_kept old mid facts t c.requires.facts (c.requires.sums c.loop-i.i none c.loop-i-test.true) c.loop-i.invariant.grows in
    let here = subst (λ b. IsFault (asks b cause.NotAPlus ∷ []) e) told c.in_err-ask.ensures.cause in
    handed_on c.from_residual-in_err-ask.result e (IsFault (sums_asked known old sums)) c.from_residual-in_err-ask.ensures.1
    (c.loop-i.invariant.fault e (subst (λ ps. IsFault ps e) (sym (from_here known old sums c.loop-i.i c.loop-i-test.true)) (fault_first (is_sum_of known (tree_at old t.id)) rest e here)))

pub loop-i-preserved : goal.loop-i-preserved
loop-i-preserved c =
    let old = c.args.store.now in
    let mid = c.loop-i.store in
    let facts = c.args.facts.now in
    let sums = c.args.sums.now in
    let t = get_or sums c.loop-i.i none in
    let known = trees_at old facts in
    let rest = sums_asked known old (drop (c.loop-i.i + 1) sums) in
    let p = is_sum_of known (tree_at old t.id) in
    let told = c.in_ok-is_sum.ensures.told ∙ sum_kept old mid facts t c.requires.facts (c.requires.sums c.loop-i.i none c.loop-i-test.true) c.loop-i.invariant.grows in
    let here = subst (λ b. AllHold (asks b cause.NotAPlus ∷ [])) told c.in_ok-ask.ensures.holds in
    let split = from_here known old sums c.loop-i.i c.loop-i-test.true in
    record {
      grows = grows_on old mid c.is_sum.new.store c.loop-i.invariant.grows c.is_sum.ensures.grows;
      holds = λ h. c.loop-i.invariant.holds (subst AllHold (sym split) (all_more p rest here h));
      fault = λ e f. c.loop-i.invariant.fault e (subst (λ ps. IsFault ps e) (sym split) (fault_later p rest e here f));
    }
