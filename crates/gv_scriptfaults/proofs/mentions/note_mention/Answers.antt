use Rattle.std.proofs.Common.{◌≡◌, length, ap, sym, subst, ◌∙◌, option_map}
use Rattle.gv_scriptnames.specs.declared.mention.Mention.{Mention}
use Rattle.gv_scriptnames.specs.Names.{name_in}
use Rattle.gv_scriptnames.specs.Scopes.{pred_named, op_named}
use Rattle.gv_scriptnames.specs.Found.{of_mention}
use Rattle.gv_scriptfaults.specs.Least.{after}
use Rattle.gv_scriptfaults.specs.Scoped.{params_of}
use Rattle.gv_scriptfaults.proofs.mentions.note_mention.Goals as goal

pub returns-in_ok-name-in-Pred : goal.returns-in_ok-name-in-Pred
returns-in_ok-name-in-Pred c = λ spec program sc sees.
    let text = c.args.text.now in
    let n = name_in text c.in-Pred.t in
    let e : c.get.result ≡ option_map params_of (pred_named sc n) = c.get.ensures ∙ sees.outside.preds c.in_ok-name-in-Pred.name ∙ ap (λ m. option_map params_of (pred_named sc m)) c.in_ok-name-in-Pred.ensures in
    subst (λ (m : Mention). c.note_pred.new.first ≡ after c.args.first.now (of_mention text spec program sc m)) (sym c.in-Pred.is) (c.note_pred.ensures text spec program (pred_named sc n) e)

pub returns-in_ok-name-in-Op : goal.returns-in_ok-name-in-Op
returns-in_ok-name-in-Op c = λ spec program sc sees.
    let text = c.args.text.now in
    let n = name_in text c.in-Op.t in
    let e : c.get-in-Op.result ≡ option_map (λ o. length o.params) (op_named spec n) = c.get-in-Op.ensures ∙ sees.known.ops c.in_ok-name-in-Op.name ∙ ap (λ m. option_map (λ o. length o.params) (op_named spec m)) c.in_ok-name-in-Op.ensures in
    subst (λ (m : Mention). c.note_op.new.first ≡ after c.args.first.now (of_mention text spec program sc m)) (sym c.in-Op.is) (c.note_op.ensures text spec program (op_named spec n) e)
