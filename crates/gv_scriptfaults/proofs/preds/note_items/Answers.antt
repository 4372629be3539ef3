use Rattle.std.proofs.Common.{◌<◌, length, ap, ◌∙◌, arith}
use Rattle.gv_scriptnames.specs.declared.outline.CaseOutline.{CaseOutline}
use Rattle.gv_scriptnames.specs.Mentions.{Mentions}
use Rattle.gv_scriptnames.specs.Found.{of_mentions}
use Rattle.gv_scriptfaults.specs.Least.{after}
use Rattle.gv_scriptfaults.proofs.Meeting.{all_noted, all_through}
use Rattle.gv_scriptfaults.proofs.preds.note_items.Goals as goal

pub loop-case-preserved : goal.loop-case-preserved
loop-case-preserved c = λ spec program sc sees.
    let text = c.args.text.now in
    let lt : c.loop-case.case-index < length c.args.cases.now = omega arith in
    all_noted (λ (k : CaseOutline). of_mentions text spec program sc k.items) c.args.cases.now c.loop-case.case-index c.case-item.result c.args.first.now c.loop-case.first c.note_mentions.new.first lt c.case-item.is
    (c.loop-case.invariant spec program sc sees)
    (c.in_ok-note_mentions.ensures spec program sc sees ∙ ap (λ (ms : Mentions). after c.loop-case.first (of_mentions text spec program sc ms)) c.as_slice-items.ensures)

pub returns : goal.returns
returns c = λ spec program sc sees.
    all_through (λ (k : CaseOutline). of_mentions c.args.text.now spec program sc k.items) c.args.cases.now c.loop-case.case-index c.args.first.now c.loop-case.first (omega arith) (c.loop-case.invariant spec program sc sees)
