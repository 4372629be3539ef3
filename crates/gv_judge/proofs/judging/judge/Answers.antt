use Rattle.std.proofs.Common.{subst}
use Rattle.std.specs.Prelude.{IfOk}
use Rattle.std.proofs.lemmas.Result.{IfOk-weaker}
use Rattle.gv_judge.specs.Judged.{IsJudgement, Tells}
use Rattle.gv_judge.proofs.MovesOf.{judged_of_spec}
use Rattle.gv_judge.proofs.Visits.{tells, decides}
use Rattle.gv_judge.proofs.judging.judge.Goals as goal

pub returns-clause-told : goal.returns-clause-told
returns-clause-told c =
    subst (λ h. IfOk c.go_through.result (Tells c.args.spec.now h)) c.as_slice.ensures.value
    (IfOk-weaker c.go_through.result _ _ (tells c.args.spec.now c.as_slice.result.now c.args.most) c.go_through.ensures)

pub returns-clause-enough : goal.returns-clause-enough
returns-clause-enough c = λ picks one le.
    let judged = subst (λ h. IfOk c.go_through.result (IsJudgement c.args.spec.now h c.args.most)) c.as_slice.ensures.value c.go_through.ensures in
    IfOk-weaker c.go_through.result _ _ (decides c.args.spec.now c.args.history.now.items c.args.most picks one le) judged

pub returns-clause-moves : goal.returns-clause-moves
returns-clause-moves c =
    let judged = subst (λ h. IfOk c.go_through.result (IsJudgement c.args.spec.now h c.args.most)) c.as_slice.ensures.value c.go_through.ensures in
    IfOk-weaker c.go_through.result _ _ (judged_of_spec c.args.spec.now c.args.history.now.items c.args.most c.requires.entries) judged
