use Rattle.std.proofs.Common.{◌+◌, refl, sym, ap, ◌∙◌}
use Rattle.gv_judge.specs.declared.node.Node.{Node}
use Rattle.gv_judge.specs.Calls.{kept_under, kept_without}
use Rattle.gv_judge.proofs.LastRaised.{told_false}
use Rattle.gv_judge.proofs.Standing.{answer_unkept, answer_wrong, answer_taken}
use Rattle.gv_judge.proofs.node.Node.answer.Goals as goal

pub returns-in-None : goal.returns-in-None
returns-in-None c = λ s before w stands.
    let n = c.args.number in
    answer_unkept s before c.args.self.now c.args.self.now w stands n c.args.reply.now (ap (λ l. kept_under l n) (sym c.as_slice.ensures.value) ∙ sym c.in-None.ensures)

pub returns-then-not-same : goal.returns-then-not-same
returns-then-not-same c = λ s before w stands.
    let n = c.args.number in
    answer_wrong s before c.args.self.now c.args.self.now w stands n c.args.reply.now c.in-Some.kept.now
    (ap (λ l. kept_under l n) (sym c.as_slice.ensures.value) ∙ sym c.in-Some.ensures)
    (λ e. told_false c.same.result c.if-not-same.true (c.same.ensures.1 e))

pub returns-in_ok-kept_without-in-Some : goal.returns-in_ok-kept_without-in-Some
returns-in_ok-kept_without-in-Some c = λ s before w stands.
    let self = c.args.self.now in
    let n = c.args.number in
    let after : Node = record { fields = c.in_ok-share-in-Some.field-0; waiting = c.in_ok-same_waiting-in-Some.field-0; acted = c.in_ok-kept_without-in-Some.field-0; place = self.place + 1 } in
    answer_taken s before self after w stands n c.args.reply.now c.in-Some.kept.now
    (ap (λ l. kept_under l n) (sym c.as_slice.ensures.value) ∙ sym c.in-Some.ensures)
    (c.same.ensures.0 c.if-not-same.false) c.in_ok-share-in-Some.ensures
    (c.in_ok-same_waiting-in-Some.ensures ∙ c.as_slice-in-Some.ensures.value)
    (c.in_ok-kept_without-in-Some.ensures ∙ ap (kept_without n) c.as_slice-in-Some-2.ensures.value) refl
