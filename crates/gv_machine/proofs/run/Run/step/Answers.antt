use Rattle.std.proofs.Common.{sym, ap, ◌∙◌, subst}
use Rattle.gv_base.specs.declared.answer.Answer.{Answer}
use Rattle.gv_lang.specs.Plain.{program_of}
use Rattle.gv_spec.specs.Runs.{living}
use Rattle.gv_runs.specs.Laws.{State}
use Rattle.gv_machine.specs.declared.ending.Ending.{Ending}
use Rattle.gv_machine.specs.declared.ending.Ending.TheVariants as ending
use Rattle.gv_machine.specs.Ending.{ComesTo}
use Rattle.gv_machine.specs.Outcomes.{Makes}
use Rattle.gv_machine.specs.Seen.{state_of, threads_of}
use Rattle.gv_machine.proofs.Stepping.{step_returns}
use Rattle.gv_machine.proofs.run.Run.step.Goals as goal

pub returns-in-Some : goal.returns-in-Some
returns-in-Some c = λ setting.
    let g = program_of c.args.program.now in
    let old = state_of c.args.self.now in
    let found = living (threads_of c.args.self.now.threads) c.args.number in
    let P : Ending → Type 0 = ComesTo found in
    let comes = subst P (c.in-Ends.is ∙ ap (ending.Ends c.in-Ends.role) c.in-Some.is) c.in_ok-ending.ensures in
    let Q : Answer State → Type 0 = λ wanted. Makes wanted old c.end.result (state_of c.end.new.self) in
    subst Q (sym (step_returns g setting old c.args.number c.args.extra found c.in-Ends.role c.in-Some.values comes)) (c.end.ensures g setting)
