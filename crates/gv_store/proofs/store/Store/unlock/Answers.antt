use Rattle.gv_cells.specs.Objects as one
use Rattle.gv_store.proofs.Reached.{does_in, stays_in, lost_in, unlock_at}
use Rattle.gv_store.proofs.store.Store.unlock.Goals as goal

pub invariant_of-self : goal.invariant_of-self
invariant_of-self c =
    stays_in _ c.args.self.now _ c.in-Ok.at c.self.inside.live _ c.unlock.new.self c.self.view_is c.self.invariant c.in-Ok.ensures.ok c.index_mut.ensures.value c.unlock.ensures.counted

pub returns-in-Ok : goal.returns-in-Ok
returns-in-Ok c =
    does_in _ c.args.self.now _ c.in-Ok.at _ c.unlock.new.self one.unlocked c.unlock.result _ c.self.view_is
    (unlock_at c.args.self.now c.args.object) c.in-Ok.ensures.ok c.index_mut.ensures.value c.unlock.ensures.answer

pub returns-in-Err : goal.returns-in-Err
returns-in-Err c = lost_in c.args.self.now _ one.unlocked _ _ (unlock_at c.args.self.now c.args.object) c.in-Err.ensures.err
