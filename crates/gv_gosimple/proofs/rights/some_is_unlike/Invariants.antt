use Rattle.std.proofs.Common.{◌≡◌, List, length}
use Rattle.gv_gotypes.specs.Assigning.{Target}
use Rattle.gv_gosimple.specs.Lefts.{wants_of}
use Rattle.gv_gosimple.proofs.Results.{Left}
use Rattle.gv_gosimple.proofs.rights.some_is_unlike.Given as goal

abbrev pub invariant-loop-wanted : goal.invariant-loop-wanted
invariant-loop-wanted l = (ts : List Target) → l.wants ≡ wants_of ts → Left ts l.kinds l.wanted l.given

abbrev pub decreases-loop-wanted : goal.decreases-loop-wanted
decreases-loop-wanted l = length l.wanted
