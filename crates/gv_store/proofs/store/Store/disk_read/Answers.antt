use Rattle.std.proofs.Common.{◌∙◌, true, false, Some, Ok, Err, ap, sym, refl, rules}
use Rattle.gv_base.specs.declared.answer.Answer.TheVariants.{Next}
use Rattle.gv_world.specs.Store.{Cells, with_new, fresh}
use Rattle.gv_world.specs.Disks.{byte_cells}
use Rattle.gv_store.proofs.Appends.{gives_new, gives_none, read_over}
use Rattle.gv_store.proofs.DiskRuns.{read_in}
use Rattle.gv_store.proofs.Rooms.{made_of}
use Rattle.gv_store.proofs.store.Store.disk_read.Goals as goal

pub returns-then-not-has_room : goal.returns-then-not-has_room
returns-then-not-has_room c = (
  read_over c.args.self.now _ c.block-bytes.result.now false
      (read_in _ c.args.self.now c.as_slice.result.now c.args.disk c.in-Ok.at c.args.block c.index-found.result.now c.block-bytes.result.now c.has_failed.result
      c.self.view_is c.as_slice.ensures.value c.in-Ok.ensures.ok c.in-Ok.ensures.within c.index-found.ensures c.block-bytes.ensures c.has_failed.ensures c.if-has_failed.false) (search rules),
  refl,
)

pub returns-in-Err-byte_cells : goal.returns-in-Err-byte_cells
returns-in-Err-byte_cells c = (
  read_over c.args.self.now _ c.block-bytes.result.now true
      (read_in _ c.args.self.now c.as_slice.result.now c.args.disk c.in-Ok.at c.args.block c.index-found.result.now c.block-bytes.result.now c.has_failed.result
      c.self.view_is c.as_slice.ensures.value c.in-Ok.ensures.ok c.in-Ok.ensures.within c.index-found.ensures c.block-bytes.ensures c.has_failed.ensures c.if-has_failed.false) (search rules),
  refl,
)

pub returns-in-Err-add : goal.returns-in-Err-add
returns-in-Err-add c =
    gives_none c.args.self.now c.add.new.self (Cells (byte_cells c.block-bytes.result.now)) _ (Some (fresh c.args.self.now)) c.in-Err-add.grow
    (read_in _ c.args.self.now c.as_slice.result.now c.args.disk c.in-Ok.at c.args.block c.index-found.result.now c.block-bytes.result.now c.has_failed.result
    c.self.view_is c.as_slice.ensures.value c.in-Ok.ensures.ok c.in-Ok.ensures.within c.index-found.ensures c.block-bytes.ensures c.has_failed.ensures c.if-has_failed.false)
    (made_of c.args.self.now c.add.new.self c.of_cells.result (Cells (byte_cells c.block-bytes.result.now)) (Err c.in-Err-add.grow)
    (c.of_cells.ensures ∙ ap Cells c.in-Ok-byte_cells.ensures) c.in-Err-add.ensures)

pub returns-in-Ok-add : goal.returns-in-Ok-add
returns-in-Ok-add c =
    gives_new c.args.self.now c.add.new.self (Cells (byte_cells c.block-bytes.result.now)) c.in-Ok-add.number _ (Some c.in-Ok-add.number)
    ((read_in _ c.args.self.now c.as_slice.result.now c.args.disk c.in-Ok.at c.args.block c.index-found.result.now c.block-bytes.result.now c.has_failed.result
    c.self.view_is c.as_slice.ensures.value c.in-Ok.ensures.ok c.in-Ok.ensures.within c.index-found.ensures c.block-bytes.ensures c.has_failed.ensures c.if-has_failed.false)
    ∙ ap (λ k. Next (with_new c.args.self.now (Cells (byte_cells c.block-bytes.result.now)), Some k)) (sym c.in-Ok-add.ensures.0))
    (made_of c.args.self.now c.add.new.self c.of_cells.result (Cells (byte_cells c.block-bytes.result.now)) (Ok c.in-Ok-add.number)
    (c.of_cells.ensures ∙ ap Cells c.in-Ok-byte_cells.ensures) c.in-Ok-add.ensures)
