use Rattle.gv_cells.specs.Objects as one
use Rattle.std.proofs.Common.{◌+◌}
use Rattle.gv_store.proofs.Reached.{does_in, stays_in, lost_in, end_at}
use Rattle.gv_store.proofs.store.Store.end_at.Goals as goal

pub invariant_of-self : goal.invariant_of-self
invariant_of-self c =
    stays_in _ c.args.self.now _ c.in-Ok.at c.self.inside.live _ c.end_write.new.self c.self.view_is c.self.invariant c.in-Ok.ensures.ok c.index_mut.ensures.value c.end_write.ensures.counted

pub returns-in-Ok : goal.returns-in-Ok
returns-in-Ok c =
    does_in _ c.args.self.now _ c.in-Ok.at _ c.end_write.new.self (λ o. one.ended o (c.args.offset + c.args.index) c.args.items.now) c.end_write.result _ c.self.view_is
    (end_at c.args.self.now c.args.object (c.args.offset + c.args.index) c.args.items.now) c.in-Ok.ensures.ok c.index_mut.ensures.value c.end_write.ensures.answer

pub returns-in-Err : goal.returns-in-Err
returns-in-Err c = lost_in c.args.self.now _ (λ o. one.ended o (c.args.offset + c.args.index) c.args.items.now) _ _ (end_at c.args.self.now c.args.object (c.args.offset + c.args.index) c.args.items.now) c.in-Err.ensures.err
