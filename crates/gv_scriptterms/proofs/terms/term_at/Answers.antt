use Rattle.std.proofs.Common.{ap}
use Rattle.gv_scriptterms.proofs.Steps.{raw}
use Rattle.gv_scriptterms.proofs.terms.term_at.Goals as goal

pub returns : goal.returns
returns c = λ whole is. ap raw (c.in_ok-placed.ensures whole is)
