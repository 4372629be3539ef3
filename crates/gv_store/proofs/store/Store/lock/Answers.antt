use Rattle.gv_cells.specs.Objects as one
use Rattle.gv_store.proofs.Reached.{does_in, stays_in, lost_in, lock_at}
use Rattle.gv_store.proofs.store.Store.lock.Goals as goal

pub invariant_of-self : goal.invariant_of-self
invariant_of-self c =
    stays_in _ c.args.self.now _ c.in-Ok.at c.self.inside.live _ c.lock.new.self c.self.view_is c.self.invariant c.in-Ok.ensures.ok c.index_mut.ensures.value c.lock.ensures.counted

pub returns-in-Ok : goal.returns-in-Ok
returns-in-Ok c =
    does_in _ c.args.self.now _ c.in-Ok.at _ c.lock.new.self one.locked c.lock.result _ c.self.view_is
    (lock_at c.args.self.now c.args.object) c.in-Ok.ensures.ok c.index_mut.ensures.value c.lock.ensures.answer

pub returns-in-Err : goal.returns-in-Err
returns-in-Err c = lost_in c.args.self.now _ one.locked _ _ (lock_at c.args.self.now c.args.object) c.in-Err.ensures.err
