use Rattle.std.proofs.Common.{◌+◌, refl, ap, ◌∙◌}
use Rattle.gv_judge.specs.declared.node.Node.{Node}
use Rattle.gv_judge.specs.Calls.{put_in}
use Rattle.gv_judge.proofs.LastRaised.{told_false}
use Rattle.gv_judge.proofs.Standing.{call_refused, call_taken}
use Rattle.gv_judge.proofs.node.Node.call.Goals as goal

pub returns-then-is_repeat : goal.returns-then-is_repeat
returns-then-is_repeat c = λ s op before w stands told.
    let self = c.args.self.now in
    let new = c.args.new in
    call_refused s before self self w stands new.number new.op new.args.now (told.0 c.if-is_repeat.true)

pub returns : goal.returns
returns c = λ s op before w stands told.
    let self = c.args.self.now in
    let new = c.args.new in
    let after : Node = record { fields = c.in_ok-share.field-0; waiting = c.in_ok-put_in.field-0; acted = c.in_ok-same_kept.field-0; place = self.place + 1 } in
    call_taken s before self after w stands new (λ h. told_false c.args.is_repeat c.if-is_repeat.false (told.1 h))
    op c.in_ok-share.ensures (c.in_ok-put_in.ensures ∙ ap (put_in new) c.as_slice.ensures.value) (c.in_ok-same_kept.ensures ∙ c.as_slice-2.ensures.value) refl
