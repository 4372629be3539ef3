use Rattle.gv_judge.proofs.AnswerLaws.{answers_exclude}
use Rattle.gv_judge.proofs.laws.answers_exclude.Goals as goal

pub returns : goal.returns
returns g c = answers_exclude g.row.V.Denot
