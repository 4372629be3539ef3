use Rattle.std.proofs.Common.{◌<◌, List, length, take, subst, sym, arith}
use Rattle.std.proofs.lemmas.List.{take_all}
use Rattle.gv_scriptnames.specs.declared.outline.PredOutline.{PredOutline}
use Rattle.gv_scriptnames.specs.Scopes.{outside}
use Rattle.gv_scriptnames.specs.Found.{of_pred_outline}
use Rattle.gv_scriptfaults.specs.Scoped.{IsOutside}
use Rattle.gv_scriptfaults.proofs.Meeting.{taken, each_noted, each_through}
use Rattle.gv_scriptfaults.proofs.preds.note_preds.Goals as goal

pub loop-pred-preserved : goal.loop-pred-preserved
loop-pred-preserved c =
    let text = c.args.text.now in
    let preds = c.args.preds.now in
    let i = c.loop-pred.pred-index in
    let p = c.pred-item.result in
    let lt : i < length preds = omega arith in
    record {
      noted = λ spec program books known is. each_noted (of_pred_outline text spec program books) preds i p c.args.first.now c.loop-pred.first c.note_pred.new.first lt c.pred-item.is
          (c.loop-pred.invariant.noted spec program books known is) (c.in_ok-note_pred.ensures spec program books (take i preds) known (c.loop-pred.invariant.outside books is));
      outside = λ books is. subst (λ (ps : List PredOutline). IsOutside (outside text books ps) c.add_pred.new.outside) (sym (taken preds i p lt c.pred-item.is))
          (c.in_ok-add_pred.ensures books (take i preds) (c.loop-pred.invariant.outside books is));
    }

pub returns-clause-noted : goal.returns-clause-noted
returns-clause-noted c = λ spec program books known is.
    each_through (of_pred_outline c.args.text.now spec program books) c.args.preds.now c.loop-pred.pred-index c.args.first.now c.loop-pred.first (omega arith) (c.loop-pred.invariant.noted spec program books known is)

pub returns-clause-outside : goal.returns-clause-outside
returns-clause-outside c = λ books is.
    subst (λ (ps : List PredOutline). IsOutside (outside c.args.text.now books ps) c.loop-pred.outside) (take_all c.loop-pred.pred-index c.args.preds.now (omega arith)) (c.loop-pred.invariant.outside books is)
