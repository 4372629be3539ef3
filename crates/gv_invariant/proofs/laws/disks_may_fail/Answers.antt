use Rattle.gv_invariant.proofs.Failing.{fail_law}
use Rattle.gv_invariant.proofs.laws.disks_may_fail.Goals as goal

pub returns : goal.returns
returns c = fail_law
