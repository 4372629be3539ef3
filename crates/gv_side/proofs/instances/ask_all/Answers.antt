use Rattle.std.proofs.Common.{map, drop, get_or, ◌+◌, sym, subst}
use Rattle.gv_terms.specs.Store.{tree_at, trees_at}
use Rattle.gv_certs.specs.Proving.{AllHold, is_known_of}
use Rattle.gv_side.specs.Telling.{IsFault}
use Rattle.gv_side.proofs.Lists.{none, asked, handed_on, fault_first, fault_later, all_more, from_here}
use Rattle.gv_side.proofs.instances.ask_all.Goals as goal

pub returns-in_err-ask_known-clause-cause : goal.returns-in_err-ask_known-clause-cause
returns-in_err-ask_known-clause-cause c =
    let st = c.args.store.now in
    let facts = trees_at st c.args.facts.now in
    let formulas = c.args.formulas.now in
    let p = is_known_of facts (tree_at st (get_or formulas c.loop-i.i none).id) in
    let rest = asked facts st (drop (c.loop-i.i + 1) formulas) in
    let e = c.in_err-ask_known.field-0.0 in
    handed_on c.from_residual.result e (IsFault (asked facts st formulas)) c.from_residual.ensures.1
    (c.loop-i.invariant.fault e (subst (λ ps. IsFault ps e) (sym (from_here facts st formulas c.loop-i.i c.loop-i-test.true)) (fault_first p rest e c.in_err-ask_known.ensures.cause)))

pub loop-i-preserved : goal.loop-i-preserved
loop-i-preserved c =
    let st = c.args.store.now in
    let facts = trees_at st c.args.facts.now in
    let formulas = c.args.formulas.now in
    let p = is_known_of facts (tree_at st (get_or formulas c.loop-i.i none).id) in
    let rest = asked facts st (drop (c.loop-i.i + 1) formulas) in
    let here = from_here facts st formulas c.loop-i.i c.loop-i-test.true in
    record {
      holds = λ h. c.loop-i.invariant.holds (subst AllHold (sym here) (all_more p rest c.in_ok-ask_known.ensures.holds h));
      fault = λ e f. c.loop-i.invariant.fault e (subst (λ ps. IsFault ps e) (sym here) (fault_later p rest e c.in_ok-ask_known.ensures.holds f));
    }
