use Rattle.gv_cells.specs.Objects as one
use Rattle.std.proofs.Common.{ℕ, add-zero, subst}
use Rattle.gv_cells.specs.Outcomes.{Does}
use Rattle.gv_store.proofs.Reached.{does_in, stays_in, lost_in, bytes_at}
use Rattle.gv_store.proofs.store.Store.begin_word.Goals as goal

pub invariant_of-self : goal.invariant_of-self
invariant_of-self c =
    stays_in _ c.args.self.now _ c.in-Ok.at c.self.inside.live _ c.begin_bytes.new.self c.self.view_is c.self.invariant c.in-Ok.ensures.ok c.index_mut.ensures.value c.begin_bytes.ensures.counted

pub returns-in-Ok : goal.returns-in-Ok
returns-in-Ok c =
    does_in _ c.args.self.now _ c.in-Ok.at _ c.begin_bytes.new.self (λ o. one.begun_bytes o c.args.slice.offset 8) c.begin_bytes.result _ c.self.view_is
    (bytes_at c.args.self.now c.args.slice.object c.args.slice.offset 8) c.in-Ok.ensures.ok c.index_mut.ensures.value
    (subst (λ (k : ℕ). Does (one.begun_bytes c.index_mut.result.now k 8) c.index_mut.result.now c.begin_bytes.result c.begin_bytes.new.self) (add-zero c.args.slice.offset) c.begin_bytes.ensures.answer)

pub returns-in-Err : goal.returns-in-Err
returns-in-Err c = lost_in c.args.self.now _ (λ o. one.begun_bytes o c.args.slice.offset 8) _ _ (bytes_at c.args.self.now c.args.slice.object c.args.slice.offset 8) c.in-Err.ensures.err
