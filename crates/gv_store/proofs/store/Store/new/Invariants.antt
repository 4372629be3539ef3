use Rattle.std.proofs.Common.{◌≡◌, replicate}
use Rattle.gv_world.specs.Store.{zero_disk}
use Rattle.gv_store.proofs.store.Store.new.Given as goal

abbrev pub invariant-loop-i : goal.invariant-loop-i
invariant-loop-i l = l.zeros.items ≡ replicate l._i (zero_disk l.blocks)
