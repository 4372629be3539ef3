use Rattle.std.proofs.Common.{subst}
use Rattle.gv_linear.specs.declared.answer.Linear.{Linear}
use Rattle.gv_linear.specs.declared.answer.Linear.TheVariants.{Yes, Negative}
use Rattle.gv_linear.specs.Answer.{IsAnswer}
use Rattle.gv_linear.proofs.AnswerLemmas.{exactly}
use Rattle.gv_linear.proofs.SoundLemmas.{contradictory}
use Rattle.gv_linear.proofs.check.check_linear.Goals as goal

pub returns-in-Some-clause-exact : goal.returns-in-Some-clause-exact
returns-in-Some-clause-exact c = exactly c.args.rows.now c.args.factors.now c.args.unknowns (Negative c.in-Some.row) c.in-Some.ensures.some

pub returns-in-None-clause-exact : goal.returns-in-None-clause-exact
returns-in-None-clause-exact c = exactly c.args.rows.now c.args.factors.now c.args.unknowns c.sums_tell.result c.sums_tell.ensures

pub returns-in-None-clause-sound : goal.returns-in-None-clause-sound
returns-in-None-clause-sound c is_yes =
    let told : IsAnswer c.args.rows.now c.args.factors.now c.args.unknowns Yes = subst (λ (a : Linear). IsAnswer c.args.rows.now c.args.factors.now c.args.unknowns a) is_yes c.sums_tell.ensures in
    contradictory c.args.rows.now c.args.factors.now c.args.unknowns c.requires.in_order told.0.signed told.1
