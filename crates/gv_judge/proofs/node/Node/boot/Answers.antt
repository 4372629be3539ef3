use Rattle.std.proofs.Common.{◌+◌, Some, refl, sym, ap, ◌∙◌}
use Rattle.std.specs.Prelude.{option_map}
use Rattle.gv_spec.specs.Atomic.{atomic_of}
use Rattle.gv_judge.specs.declared.node.Node.{Node}
use Rattle.gv_judge.proofs.Standing.{boot_refused, boot_taken}
use Rattle.gv_judge.proofs.node.Node.boot.Goals as goal

pub returns-in-None : goal.returns-in-None
returns-in-None c = λ before w stands.
    boot_refused c.args.spec.now before c.args.self.now c.args.self.now w stands c.args.choices.now
    (ap (λ f. (atomic_of c.args.spec.now).crashed c.args.choices.now f.values) (sym c.state.ensures)
    ∙ c.in_ok-crashed.ensures.atomic ∙ ap (option_map (λ r. r.values)) c.in-None.is)

pub returns-in_ok-fields-in-Some : goal.returns-in_ok-fields-in-Some
returns-in_ok-fields-in-Some c = λ before w stands.
    let self = c.args.self.now in
    let after : Node = record { fields = c.in_ok-fields-in-Some.fields; waiting = c.new-in-Some.result; acted = c.new-in-Some-2.result; place = self.place + 1 } in
    boot_taken c.args.spec.now before self after w stands c.args.choices.now
    (ap (λ f. (atomic_of c.args.spec.now).crashed c.args.choices.now f.values) (sym c.state.ensures)
    ∙ c.in_ok-crashed.ensures.atomic ∙ ap (option_map (λ r. r.values)) c.in-Some.is ∙ ap (λ f. Some f.values) (sym c.in_ok-fields-in-Some.ensures))
    c.new-in-Some.ensures.items c.new-in-Some-2.ensures.items refl
