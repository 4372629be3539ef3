use Rattle.gv_scriptfaults.proofs.Firsts.{first_is}
use Rattle.gv_scriptfaults.proofs.outline.first_fault.Goals as goal

pub returns : goal.returns
returns c = first_is c.args.text.now c.args.spec.now c.args.program.now c.args.outline.now c.note_outline.new.first c.in_ok-note_outline.ensures
