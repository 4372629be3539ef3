use Rattle.std.proofs.Common.{arith}
use Rattle.gv_cells.proofs.Passes.{marked_more}
use Rattle.gv_cells.proofs.writing.mark.Goals as goal

pub loop-cell-preserved : goal.loop-cell-preserved
loop-cell-preserved c =
    marked_more c.args.cells.now c.loop-cell.cells c.loop-cell.cell-index _ _ c.loop-cell-test.true (omega arith) c.loop-cell.invariant
