use Rattle.std.proofs.Common.{◌≡◌, map, take}
use Rattle.gv_sums.proofs.checking.factors.Given as goal

abbrev pub invariant-loop-i : goal.invariant-loop-i
invariant-loop-i l = l.factors.items ≡ map (λ r. r.factor) (take l.i l.rows)
