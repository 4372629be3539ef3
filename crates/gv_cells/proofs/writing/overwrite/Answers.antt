use Rattle.std.proofs.Common.{arith}
use Rattle.gv_cells.proofs.Passes.{none_written, written_more}
use Rattle.gv_cells.proofs.writing.overwrite.Goals as goal

pub loop-i-init : goal.loop-i-init
loop-i-init c = none_written _

pub loop-i-preserved : goal.loop-i-preserved
loop-i-preserved c =
    written_more c.args.cells.now c.loop-i.cells c.args.items.now c.loop-i.i _ _ _ _ (omega arith) (omega arith) (omega arith) c.loop-i.invariant c.as_written-value.ensures
