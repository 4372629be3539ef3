use Rattle.gv_cells.specs.Objects as one
use Rattle.gv_store.proofs.Reached.{does_in, stays_in, lost_in, map_begin_at}
use Rattle.gv_store.proofs.store.Store.map_begin.Goals as goal

pub invariant_of-self : goal.invariant_of-self
invariant_of-self c =
    stays_in _ c.args.self.now _ c.in-Ok.at c.self.inside.live _ c.map_begin.new.self c.self.view_is c.self.invariant c.in-Ok.ensures.ok c.index_mut.ensures.value c.map_begin.ensures.counted

pub returns-in-Ok : goal.returns-in-Ok
returns-in-Ok c =
    does_in _ c.args.self.now _ c.in-Ok.at _ c.map_begin.new.self one.map_begun c.map_begin.result _ c.self.view_is
    (map_begin_at c.args.self.now c.args.object) c.in-Ok.ensures.ok c.index_mut.ensures.value c.map_begin.ensures.answer

pub returns-in-Err : goal.returns-in-Err
returns-in-Err c = lost_in c.args.self.now _ one.map_begun _ _ (map_begin_at c.args.self.now c.args.object) c.in-Err.ensures.err
