use Rattle.std.proofs.Common.{set, take, get_or, sym, ap, ◌∙◌}
use Rattle.gv_atomic.specs.declared.spec.Assign.{Assign}
use Rattle.gv_atomic.specs.Specification.{assigned}
use Rattle.gv_spec.proofs.Assigned.{assigned_take}
use Rattle.gv_spec.proofs.meaning.assign.Goals as goal

pub loop-a-preserved : goal.loop-a-preserved
loop-a-preserved c =
    let none : Assign = record { field = 0; term = record { id = 0 } } in
    let a = get_or c.args.body.now c.loop-a.a-index none in
    c.set_at.ensures ∙ ap (λ l. set l a.field c.in_ok-value.value) c.loop-a.invariant
    ∙ ap (λ v. set (assigned c.args.store.now c.args.env.now (take c.loop-a.a-index c.args.body.now) c.args.s.now.values) a.field v) c.in_ok-value.ensures.value
    ∙ sym (assigned_take c.args.store.now c.args.env.now c.args.body.now c.args.s.now.values c.loop-a.a-index none c.loop-a-test.true)
