use Rattle.std.proofs.Common.{OnOk, Option, sym, ap, subst}
use Rattle.std.specs.Option.{option_copied}
use Rattle.gv_scriptfaults.specs.declared.scoped.ProcFacts.{ProcFacts}
use Rattle.gv_scriptfaults.specs.Noted.{AreLocals}
use Rattle.gv_scriptfaults.proofs.bodies.note_locals.Goals as goal

pub returns-in-Some : goal.returns-in-Some
returns-in-Some c =
    subst (λ (o : Option ProcFacts). OnOk c.note_known_locals.result (AreLocals c.args.text.now o c.args.ts.now c.args.first.now c.note_known_locals.new.first)) (sym (ap option_copied c.in-Some.is)) c.note_known_locals.ensures
