use Rattle.std.proofs.Common.{arith}
use Rattle.gv_store.proofs.Counts.{fresh_within}
use Rattle.gv_store.proofs.store.Store.add.Goals as goal

pub overflow_cast-result : goal.overflow_cast-result
overflow_cast-result c =
    let small = fresh_within _ _ c.args.object c.len.result c.self.view_is c.requires (omega (arith, c.len.ensures, c.in_ok-push.ensures.len)) in
    omega arith
