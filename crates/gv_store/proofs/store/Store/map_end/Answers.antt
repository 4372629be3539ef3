use Rattle.std.proofs.Common.{refl}
use Rattle.gv_cells.specs.Objects as one
use Rattle.gv_store.proofs.Reached.{does_in, map_end_at}
use Rattle.gv_store.proofs.Rooms.{counted_in, over_now, not_over, counts_after, found_again}
use Rattle.gv_store.proofs.store.Store.map_end.Goals as goal

pub overflow_sub-rest : goal.overflow_sub-rest
overflow_sub-rest c =
    counted_in _ c.args.self.now c.args.object c.in-Ok.at c.args.key c.args.item c.self.inside.live c.counted.result _ c.index.result.now c.index.result.now
    c.self.view_is c.self.invariant c.in-Ok.ensures.ok c.index.ensures c.index.ensures c.counted.ensures.value refl

pub returns-then-live-gt-MOST_CELLS : goal.returns-then-live-gt-MOST_CELLS
returns-then-live-gt-MOST_CELLS c = (
  over_now _ c.args.self.now c.args.object c.in-Ok.at c.args.key c.args.item c.self.inside.live c.counted.result c.counted_after.result c.index.result.now c.index-2.result.now
      c.self.view_is c.self.invariant c.in-Ok.ensures.ok c.index.ensures c.index-2.ensures c.counted.ensures.value c.counted_after.ensures.value c.if-live-gt-MOST_CELLS.true,
  refl,
)

pub invariant_of-self : goal.invariant_of-self
invariant_of-self c =
    counts_after _ c.args.self.now c.args.object c.in-Ok.at c.args.key c.args.item c.self.inside.live c.counted.result c.counted_after.result c.index.result.now c.index-2.result.now
    c.self.view_is c.self.invariant c.in-Ok.ensures.ok c.index.ensures c.index-2.ensures c.counted.ensures.value c.counted_after.ensures.value
    c.index_mut.result.now c.map_end.new.self c.index_mut.ensures.value c.in-Ok-map_end.ensures.counted c.if-live-gt-MOST_CELLS.false

pub returns-in-Ok-map_end : goal.returns-in-Ok-map_end
returns-in-Ok-map_end c = (
  does_in _ c.args.self.now _ c.in-Ok.at _ c.map_end.new.self (λ o. one.map_ended o c.args.key c.args.item) c.in-Ok-map_end.answer _ c.self.view_is
      (map_end_at c.args.self.now c.args.object c.args.key c.args.item) c.in-Ok.ensures.ok c.index_mut.ensures.value c.in-Ok-map_end.ensures.ok,
  not_over _ c.args.self.now c.args.object c.in-Ok.at c.args.key c.args.item c.self.inside.live c.counted.result c.counted_after.result c.index.result.now c.index-2.result.now
      c.self.view_is c.self.invariant c.in-Ok.ensures.ok c.index.ensures c.index-2.ensures c.counted.ensures.value c.counted_after.ensures.value c.if-live-gt-MOST_CELLS.false,
)

pub returns-in-Err-map_end : goal.returns-in-Err-map_end
returns-in-Err-map_end c = (
  not_over _ c.args.self.now c.args.object c.in-Ok.at c.args.key c.args.item c.self.inside.live c.counted.result c.counted_after.result c.index.result.now c.index-2.result.now
      c.self.view_is c.self.invariant c.in-Ok.ensures.ok c.index.ensures c.index-2.ensures c.counted.ensures.value c.counted_after.ensures.value c.if-live-gt-MOST_CELLS.false,
  found_again _ c.args.self.now c.in-Ok.at c.index_mut.result.now c.map_end.new.self c.self.view_is c.index_mut.ensures.value c.in-Err-map_end.ensures.err,
)
