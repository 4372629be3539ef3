use Rattle.std.proofs.Common.{length, sym, ap, ◌∙◌}
use Rattle.std.specs.Prelude.{slice_get}
use Rattle.gv_judge.specs.Later.{first_list}
use Rattle.gv_judge.proofs.CallLists.{call_at}
use Rattle.gv_judge.proofs.Adds.{act_first, read_at}
use Rattle.gv_judge.proofs.turn.first_act.Goals as goal

pub operation-op-requires : goal.operation-op-requires
operation-op-requires c =
    let s = c.args.spec.now in
    let items = c.args.node.now.waiting.items in
    let call = c.in-Some.call.now in
    let read = c.in-Some.ensures.lookup in
    (call_at (length s.ops) 0 items c.args.place call c.requires
    (ap (λ l. slice_get l c.args.place) (sym c.as_slice.ensures.value) ∙ read_at c.as_slice.result.now c.args.place call read.3.0 read.1)).1

pub returns-in_ok-first_choices-in-Some-clause-moves : goal.returns-in_ok-first_choices-in-Some-clause-moves
returns-in_ok-first_choices-in-Some-clause-moves c =
    let s = c.args.spec.now in
    let n = c.args.node.now in
    let call = c.in-Some.call.now in
    let read = c.in-Some.ensures.lookup in
    act_first s n.fields.values n.waiting.items c.args.place call c.operation-op.result.now c.in_ok-first_choices-in-Some.field-0.items
    (ap (λ l. slice_get l c.args.place) (sym c.as_slice.ensures.value) ∙ read_at c.as_slice.result.now c.args.place call read.3.0 read.1)
    c.operation-op.ensures.is (c.in_ok-first_choices-in-Some.ensures ∙ ap first_list c.as_slice-in-Some.ensures)

pub returns-in_ok-first_choices-in-Some-clause-turn : goal.returns-in_ok-first_choices-in-Some-clause-turn
returns-in_ok-first_choices-in-Some-clause-turn c =
    let s = c.args.spec.now in
    let items = c.args.node.now.waiting.items in
    let call = c.in-Some.call.now in
    let read = c.in-Some.ensures.lookup in
    let at = call_at (length s.ops) 0 items c.args.place call c.requires
    (ap (λ l. slice_get l c.args.place) (sym c.as_slice.ensures.value) ∙ read_at c.as_slice.result.now c.args.place call read.3.0 read.1) in
    λ _. (at.0, at.1)
