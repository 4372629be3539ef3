use Rattle.std.proofs.Common.{arith}
use Rattle.gv_store.proofs.Counts.{rest_within, rest_dropped}
use Rattle.gv_store.proofs.store.Store.forget_from.Goals as goal

pub total-requires : goal.total-requires
total-requires c =
    omega (arith, rest_within _ c.self.inside.objects.items c.min-kept.result c.self.inside.live c.deref.ensures.value c.self.invariant, c.self.invariant.within)

pub overflow_sub-self : goal.overflow_sub-self
overflow_sub-self c =
    omega (arith, rest_within _ c.self.inside.objects.items c.min-kept.result c.self.inside.live c.deref.ensures.value c.self.invariant, c.total.ensures)

pub invariant_of-self : goal.invariant_of-self
invariant_of-self c =
    rest_dropped _ c.self.inside.objects.items _ c.min-kept.result c.self.inside.live c.total.result c.deref.ensures.value c.self.invariant c.total.ensures c.truncate.ensures.items
