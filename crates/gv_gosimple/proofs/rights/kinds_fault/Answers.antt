use Rattle.std.proofs.Common.{◌∙◌}
use Rattle.gv_gosimple.proofs.Results.{other_number, same_number}
use Rattle.gv_gosimple.proofs.rights.kinds_fault.Goals as goal

pub returns-then-kinds-wants : goal.returns-then-kinds-wants
returns-then-kinds-wants c = λ ts w. c.wrong_count.ensures ∙ other_number ts c.args.wants.now c.args.kinds.now c.args.statement c.args.start w c.if-kinds-wants.true

pub returns-else-kinds-wants : goal.returns-else-kinds-wants
returns-else-kinds-wants c = λ ts w. c.unlike_fault.ensures ts w ∙ same_number ts c.args.wants.now c.args.kinds.now c.args.statement c.args.start w c.if-kinds-wants.false
