use Rattle.std.proofs.Common.{sym, ◌∙◌}
use Rattle.gv_gotypes.specs.Assigning.{some_unlike}
use Rattle.gv_gosimple.proofs.Results.{unlike_told, alike_told}
use Rattle.gv_gosimple.proofs.rights.unlike_fault.Goals as goal

pub returns-then-some_is_unlike : goal.returns-then-some_is_unlike
returns-then-some_is_unlike c = λ ts w. unlike_told (some_unlike ts c.args.kinds.now) c.args.start (sym (c.some_is_unlike.ensures ts w) ∙ c.if-some_is_unlike.true)

pub returns-else-some_is_unlike : goal.returns-else-some_is_unlike
returns-else-some_is_unlike c = λ ts w. alike_told (some_unlike ts c.args.kinds.now) c.args.start (sym (c.some_is_unlike.ensures ts w) ∙ c.if-some_is_unlike.false)
