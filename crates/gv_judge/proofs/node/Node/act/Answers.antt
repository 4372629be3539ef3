use Rattle.std.proofs.Common.{Some, ◌++◌, ◌∷◌, [], refl, sym, ap, ◌∙◌}
use Rattle.std.specs.Prelude.{option_map}
use Rattle.gv_spec.specs.Atomic.{atomic_of}
use Rattle.gv_judge.specs.Calls.{taken_out}
use Rattle.gv_judge.proofs.Standing.{act_refused, act_taken}
use Rattle.gv_judge.proofs.node.Node.act.Goals as goal

pub returns-in-None : goal.returns-in-None
returns-in-None c = λ waits before w stands.
    let self = c.args.self.now in
    let call = c.args.call in
    act_refused c.args.spec.now before self self w stands call c.args.choices.now waits
    (ap (λ vs. (atomic_of c.args.spec.now).applied call.op vs c.args.choices.now self.fields.values) (sym c.as_slice.ensures)
    ∙ ap (λ f. (atomic_of c.args.spec.now).applied call.op c.as_slice.result.now c.args.choices.now f.values) (sym c.state.ensures)
    ∙ c.in_ok-apply.ensures.atomic ∙ ap (option_map (λ r. (r.0.values, r.1))) c.in-None.is)

pub returns-in_ok-taken_out-in-Some : goal.returns-in_ok-taken_out-in-Some
returns-in_ok-taken_out-in-Some c = λ waits before w stands.
    let self = c.args.self.now in
    let call = c.args.call in
    act_taken c.args.spec.now before self _ w stands call c.args.choices.now c.in-Some.reply waits
    (ap (λ vs. (atomic_of c.args.spec.now).applied call.op vs c.args.choices.now self.fields.values) (sym c.as_slice.ensures)
    ∙ ap (λ f. (atomic_of c.args.spec.now).applied call.op c.as_slice.result.now c.args.choices.now f.values) (sym c.state.ensures)
    ∙ c.in_ok-apply.ensures.atomic ∙ ap (option_map (λ r. (r.0.values, r.1))) c.in-Some.is
    ∙ ap (λ f. Some (f.values, c.in-Some.reply)) (sym c.in_ok-fields-in-Some.ensures ∙ sym c.fields.view_is))
    (c.in_ok-taken_out-in-Some.ensures ∙ ap (taken_out call.number) c.as_slice-in-Some-2.ensures.value)
    (c.in_ok-push-in-Some.ensures.items ∙ ap (λ l. l ++ (record { number = call.number; reply = c.in-Some.reply }) ∷ []) (c.in_ok-acted-in-Some.ensures ∙ c.as_slice-in-Some.ensures.value)) refl
