use Rattle.std.proofs.Common.{refl}
use Rattle.gv_lockstep.specs.Worked.{Worked}

pub worked : Worked
worked = record { counter = refl; is_shaped = refl; nested = refl }
