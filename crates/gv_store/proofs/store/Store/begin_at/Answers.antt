use Rattle.gv_cells.specs.Objects as one
use Rattle.std.proofs.Common.{◌+◌}
use Rattle.gv_store.proofs.Reached.{does_in, stays_in, lost_in, begin_at}
use Rattle.gv_store.proofs.store.Store.begin_at.Goals as goal

pub invariant_of-self : goal.invariant_of-self
invariant_of-self c =
    stays_in _ c.args.self.now _ c.in-Ok.at c.self.inside.live _ c.begin_write.new.self c.self.view_is c.self.invariant c.in-Ok.ensures.ok c.index_mut.ensures.value c.begin_write.ensures.counted

pub returns-in-Ok : goal.returns-in-Ok
returns-in-Ok c =
    does_in _ c.args.self.now _ c.in-Ok.at _ c.begin_write.new.self (λ o. one.begun o (c.args.offset + c.args.index) c.args.count) c.begin_write.result _ c.self.view_is
    (begin_at c.args.self.now c.args.object (c.args.offset + c.args.index) c.args.count) c.in-Ok.ensures.ok c.index_mut.ensures.value c.begin_write.ensures.answer

pub returns-in-Err : goal.returns-in-Err
returns-in-Err c = lost_in c.args.self.now _ (λ o. one.begun o (c.args.offset + c.args.index) c.args.count) _ _ (begin_at c.args.self.now c.args.object (c.args.offset + c.args.index) c.args.count) c.in-Err.ensures.err
