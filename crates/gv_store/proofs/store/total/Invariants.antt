use Rattle.std.proofs.Common.{◌≡◌, take}
use Rattle.std.specs.Prelude.{map, sum}
use Rattle.gv_world.specs.Store.{counted}
use Rattle.gv_store.proofs.store.total.Given as goal

abbrev pub invariant-loop-object : goal.invariant-loop-object
invariant-loop-object l = l.total ≡ sum (map counted (take l.object-index l.objects))
