use Rattle.std.proofs.Common.{ap, arith}
use Rattle.gv_world.specs.Store.{counted}
use Rattle.gv_store.proofs.Counts.{total_within}
use Rattle.gv_store.proofs.store.total.Goals as goal

pub overflow_add-total : goal.overflow_add-total
overflow_add-total c =
    let within = total_within c.args.objects.now c.loop-object.object-index c.loop-object.total c.object-item.result c.loop-object-test.true c.loop-object.invariant c.requires in
    let is = ap counted c.object-item.is in
    omega (arith, within, is, c.counted-total.ensures)
