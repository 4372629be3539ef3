use Rattle.std.proofs.Common.{sym}
use Rattle.gv_gowalk.proofs.types.pointed_at.Goals as goal

pub returns-in-Named : goal.returns-in-Named
returns-in-Named c = λ to h. sym (c.in-Named.ensures to h)

pub returns-in-Mutex : goal.returns-in-Mutex
returns-in-Mutex c = λ to h. sym (c.in-Mutex.ensures to h)
