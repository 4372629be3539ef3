use Rattle.std.proofs.Common.{Some, sym, subst}
use Rattle.std.proofs.lemmas.Result.{IfOk-weaker}
use Rattle.gv_spec.specs.Move as move
use Rattle.gv_judge.specs.Node.{Takes}
use Rattle.gv_judge.specs.Turn.{move_first, IsTurn}
use Rattle.gv_judge.proofs.RepeatLaws.{told_there}
use Rattle.gv_judge.proofs.search.after.Goals as goal

pub returns-in-Call : goal.returns-in-Call
returns-in-Call c =
    let s = c.args.spec.now in
    let history = c.args.history.now in
    let new = c.in-Call.new in
    let turn = subst (λ t. IsTurn s c.args.history.now c.args.node.now (Some t)) c.in-Call.is c.requires.turn in
    IfOk-weaker c.call.result _ _
    (λ o h before w stands at. subst (λ t. Takes s before w (move_first t) o) (sym c.in-Call.is)
    (h s turn.1 before w stands
    (told_there history c.args.repeats.now c.args.node.now.place new.number new.op new.args.now before c.requires.repeats turn.0 at))) c.call.ensures

pub returns-in-Answer : goal.returns-in-Answer
returns-in-Answer c =
    let s = c.args.spec.now in
    IfOk-weaker c.answer.result _ _ (λ o h before w stands at. subst (λ t. Takes s before w (move_first t) o) (sym c.in-Answer.is) (h s before w stands)) c.answer.ensures

pub returns-in-Boot : goal.returns-in-Boot
returns-in-Boot c =
    let s = c.args.spec.now in
    IfOk-weaker c.boot.result _ _ (λ o h before w stands at. subst (λ t. Takes s before w (move_first t) o) (sym c.in-Boot.is)
    (subst (λ cs. Takes s before w (move.Boot cs) o) c.as_slice.ensures.value (h before w stands))) c.boot.ensures

pub returns-in-Act : goal.returns-in-Act
returns-in-Act c =
    let s = c.args.spec.now in
    let turn = subst (λ t. IsTurn s c.args.history.now c.args.node.now (Some t)) c.in-Act.is c.requires.turn in
    IfOk-weaker c.act.result _ _ (λ o h before w stands at. subst (λ t. Takes s before w (move_first t) o) (sym c.in-Act.is)
    (subst (λ cs. Takes s before w (move.Act c.in-Act.call.number cs) o) c.as_slice-in-Act.ensures.value (h turn.0 before w stands))) c.act.ensures

pub returns-in_ok-crash-in-Crash : goal.returns-in_ok-crash-in-Crash
returns-in_ok-crash-in-Crash c = λ before w stands at.
    let s = c.args.spec.now in
    subst (λ t. Takes s before w (move_first t) (Some c.in_ok-crash-in-Crash.field-0)) (sym c.in-Crash.is) (c.in_ok-crash-in-Crash.ensures s before w stands)
