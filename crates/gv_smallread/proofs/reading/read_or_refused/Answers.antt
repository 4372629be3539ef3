use Rattle.std.proofs.Common.{Result, IfErr, sym, subst}
use Rattle.gv_base.specs.declared.answers.Refusal.{Refusal}
use Rattle.gv_smallscript.specs.declared.forms.SmallScript.{SmallScript}
use Rattle.gv_smallread.specs.Reading.{IsRefusal}
use Rattle.gv_smallread.proofs.Decided.{form_refuses, text_refuses}
use Rattle.gv_smallread.proofs.reading.read_or_refused.Goals as goal
use Rattle.gv_smallread.proofs.reading.read_or_refused.Goals.{in-Ok, in-Err}

pub returns-clause-refused : goal.returns-clause-refused
returns-clause-refused c =
    let text = c.args.text.now in
    let spec = c.args.spec.now in
    let program = c.args.program.now in
    elim c.match-read_script.branch [
      | in-Ok w ↦
          subst (λ (r : Result SmallScript Refusal). IfErr r (IsRefusal text spec program)) (sym w.result-is)
          (form_refuses text spec program _ w.small_or_refused.result w.in-Ok.ensures.read w.small_or_refused.ensures.other)
      | in-Err w ↦
          subst (λ (r : Result SmallScript Refusal). IfErr r (IsRefusal text spec program)) (sym w.result-is) (text_refuses text spec program _ w.in-Err.ensures.refused)
    ]
