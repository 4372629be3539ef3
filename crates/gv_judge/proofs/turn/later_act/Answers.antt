use Rattle.std.proofs.Common.{◌++◌, map, drop, sym, ap, subst, ◌∙◌}
use Rattle.std.specs.Prelude.{option_map}
use Rattle.std.proofs.lemmas.Result.{IfOk-weaker}
use Rattle.gv_atomic.specs.Specification.{ArePicksWithin, op_before}
use Rattle.gv_spec.specs.Move as move
use Rattle.gv_judge.specs.Turn.{acts_from}
use Rattle.gv_judge.proofs.Adds.{from_op, later_op, none_left, no_later_op}
use Rattle.gv_judge.proofs.turn.later_act.Goals as goal

pub next_choices-requires : goal.next_choices-requires
next_choices-requires c = subst (ArePicksWithin c.args.spec.now.store) (sym c.as_slice-picks.ensures) c.operation-op.ensures.within.picks

pub returns-in-Some-clause-moves : goal.returns-in-Some-clause-moves
returns-in-Some-clause-moves c =
    let s = c.args.spec.now in
    let n = c.args.node.now in
    let call = c.args.call in
    let o = c.operation-op.result.now in
    let later = later_op s n.fields.values call o c.in_ok-before.before.bindings c.as_slice-picks.result.now c.args.choices.now _ c.operation-op.ensures.is c.as_slice-picks.ensures
    (c.in_ok-before.ensures ∙ ap (λ f. op_before s o c.as_slice.result.now f.values) c.state.ensures ∙ ap (λ vs. op_before s o vs n.fields.values) c.as_slice.ensures) c.in_ok-choices.ensures in
    sym (ap (λ ls. map (λ cs. move.Act call.number cs) ls ++ acts_from s n.fields.values (drop c.args.next n.waiting.items))
    (later ∙ ap (λ o. from_op s n.fields.values call (option_map (λ v. v.items) o)) c.in-Some.is))

pub returns-in-None-clause-moves : goal.returns-in-None-clause-moves
returns-in-None-clause-moves c =
    let s = c.args.spec.now in
    let n = c.args.node.now in
    let call = c.args.call in
    let o = c.operation-op.result.now in
    let later = later_op s n.fields.values call o c.in_ok-before.before.bindings c.as_slice-picks.result.now c.args.choices.now _ c.operation-op.ensures.is c.as_slice-picks.ensures
    (c.in_ok-before.ensures ∙ ap (λ f. op_before s o c.as_slice.result.now f.values) c.state.ensures ∙ ap (λ vs. op_before s o vs n.fields.values) c.as_slice.ensures) c.in_ok-choices.ensures in
    let none = later ∙ ap (λ o. from_op s n.fields.values call (option_map (λ v. v.items) o)) c.in-None.is in
    IfOk-weaker c.first_act-in-None.result _ _
    (λ t h. h ∙ sym (ap (λ ls. map (λ cs. move.Act call.number cs) ls ++ acts_from s n.fields.values (drop c.args.next n.waiting.items)) none)) c.first_act-in-None.ensures.moves

pub returns-then-is_empty-clause-moves : goal.returns-then-is_empty-clause-moves
returns-then-is_empty-clause-moves c =
    let s = c.args.spec.now in
    let n = c.args.node.now in
    let call = c.args.call in
    let o = c.operation-op.result.now in
    let none = no_later_op s n.fields.values call o c.args.choices.now c.operation-op.ensures.is
    (sym c.as_slice-picks.ensures ∙ none_left c.as_slice-picks.result.now c.is_empty.result c.is_empty.ensures c.if-is_empty.true) in
    IfOk-weaker c.first_act.result _ _
    (λ t h. h ∙ sym (ap (λ ls. map (λ cs. move.Act call.number cs) ls ++ acts_from s n.fields.values (drop c.args.next n.waiting.items)) none)) c.first_act.ensures.moves
