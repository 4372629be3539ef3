use Rattle.std.proofs.Common.{sym}
use Rattle.gv_termread.proofs.reading.term_from.Goals as goal

pub returns-in-Ok-clause-read : goal.returns-in-Ok-clause-read
returns-in-Ok-clause-read c = record { placed = c.in-Ok.placed; same = sym c.without_places.ensures; read = c.in-Ok.ensures.read }
