use Rattle.std.proofs.Common.{◌≡◌, List, sym, ap, subst, ◌∙◌}
use Rattle.std.specs.Prelude.{All}
use Rattle.gv_base.specs.Places.{place_at}
use Rattle.gv_spec.specs.History.{IsEventOf}
use Rattle.gv_replay.specs.Plans.{with_plan, lines_placed}
use Rattle.gv_replay.specs.Reading.{Tells, IsRefused}
use Rattle.gv_replay.specs.declared.line.TextKind.TheVariants as text_kind
use Rattle.gv_replay.specs.declared.plan.Plan.{Plan}
use Rattle.gv_replay.specs.declared.schedule.Line.{Line}
use Rattle.gv_replay.specs.declared.schedule.Schedule.{Schedule}
use Rattle.gv_replay.proofs.AnswerLemmas.{unread_on, refused_on}
use Rattle.gv_replay.proofs.OfSpecLemmas.{plans_told, placed_told}
use Rattle.gv_replay.proofs.reading.read_schedule.Goals as goal

pub returns-in_err-plan-clause-only : goal.returns-in_err-plan-clause-only
returns-in_err-plan-clause-only c = λ schedule t.
    let given = subst (λ (st : Plan). Tells (with_plan c.args.spec.now) st text_kind.Schedule c.args.text.now t.plan) (sym c.new.ensures) t.told in
    unread_on (λ (r : Plan). r ≡ t.plan) (λ (r : Schedule). r ≡ schedule) c.from_residual.result c.in_err-plan.field-0.0 c.from_residual.ensures.1
    (c.in_err-plan.ensures.only t.plan given)

pub returns-in_err-plan-clause-fault : goal.returns-in_err-plan-clause-fault
returns-in_err-plan-clause-fault c = λ at code r.
    let given = subst (λ (st : Plan). IsRefused (with_plan c.args.spec.now) st text_kind.Schedule c.args.text.now at code) (sym c.new.ensures) r in
    refused_on Plan (place_at c.args.text.now at) code c.from_residual.result c.in_err-plan.field-0.0 c.from_residual.ensures.1 (c.in_err-plan.ensures.fault at code given)

pub returns-clause-only : goal.returns-clause-only
returns-clause-only c = λ schedule t.
    let text = c.args.text.now in
    let given = subst (λ (st : Plan). Tells (with_plan c.args.spec.now) st text_kind.Schedule text t.plan) (sym c.new.ensures) t.told in
    let same = c.in_ok-events.ensures ∙ ap (lines_placed text) (c.in_ok-plan.ensures.only t.plan given) ∙ sym t.events in
    λ i. record { events = same i }

pub returns-clause-fault : goal.returns-clause-fault
returns-clause-fault c = λ at code r.
    let given = subst (λ (st : Plan). IsRefused (with_plan c.args.spec.now) st text_kind.Schedule c.args.text.now at code) (sym c.new.ensures) r in
    c.in_ok-plan.ensures.fault at code given

pub returns-clause-of_spec : goal.returns-clause-of_spec
returns-clause-of_spec c =
    let s = c.args.spec.now in
    let P : List Line → Type 0 = All (λ (l : Line). IsEventOf s l.event) in
    let t = subst (λ (st : Plan). Tells (with_plan s) st text_kind.Schedule c.args.text.now c.in_ok-plan.plan) c.new.ensures c.in_ok-plan.ensures.found in
    subst P (sym c.in_ok-events.ensures) (placed_told s c.args.text.now c.in_ok-plan.plan.lines (plans_told s t.lines c.in_ok-plan.plan t.told))
