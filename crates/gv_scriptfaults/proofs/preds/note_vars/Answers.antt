use Rattle.std.proofs.Common.{◌<◌, [], length, ap, ◌∙◌, arith}
use Rattle.gv_scriptnames.specs.declared.outline.CaseOutline.{CaseOutline}
use Rattle.gv_scriptnames.specs.Names.{names_of}
use Rattle.gv_scriptnames.specs.Found.{all_twice}
use Rattle.gv_scriptfaults.specs.Least.{after}
use Rattle.gv_scriptfaults.proofs.Meeting.{all_noted, all_through}
use Rattle.gv_scriptfaults.proofs.Naming.{behind_none}
use Rattle.gv_scriptfaults.proofs.preds.note_vars.Goals as goal

pub loop-case-preserved : goal.loop-case-preserved
loop-case-preserved c = λ spec program names holds.
    let text = c.args.text.now in
    let lt : c.loop-case.case-index < length c.args.cases.now = omega arith in
    all_noted (λ (k : CaseOutline). all_twice text spec program names (names_of k.vars)) c.args.cases.now c.loop-case.case-index c.case-item.result c.args.first.now c.loop-case.first c.declare_pars.new.first lt c.case-item.is
    (c.loop-case.invariant spec program names holds)
    (c.in_ok-declare_pars.ensures.noted spec program names [] holds c.new-own.ensures
    ∙ ap (after c.loop-case.first) (behind_none text spec program names _ (names_of c.case-item.result.vars) (ap names_of c.as_slice.ensures)))

pub returns : goal.returns
returns c = λ spec program names holds.
    all_through (λ (k : CaseOutline). all_twice c.args.text.now spec program names (names_of k.vars)) c.args.cases.now c.loop-case.case-index c.args.first.now c.loop-case.first (omega arith) (c.loop-case.invariant spec program names holds)
