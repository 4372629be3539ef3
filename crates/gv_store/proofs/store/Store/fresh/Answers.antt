use Rattle.std.proofs.Common.{arith}
use Rattle.gv_store.proofs.Counts.{no_more_objects}
use Rattle.gv_store.proofs.store.Store.fresh.Goals as goal

pub overflow_cast-result : goal.overflow_cast-result
overflow_cast-result c = omega (arith, no_more_objects c.self.inside.objects.items, c.self.invariant.count, c.self.invariant.within, c.len.ensures)

pub overflow_add-result : goal.overflow_add-result
overflow_add-result c = omega (arith, no_more_objects c.self.inside.objects.items, c.self.invariant.count, c.self.invariant.within, c.len.ensures)
