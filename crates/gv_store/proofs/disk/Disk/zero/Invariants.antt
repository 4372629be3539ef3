use Rattle.std.proofs.Common.{◌≡◌, replicate}
use Rattle.gv_store.proofs.disk.Disk.zero.Given as goal

abbrev pub invariant-loop-i : goal.invariant-loop-i
invariant-loop-i l = l.zeros.items ≡ replicate l._i (replicate 4096 0)
