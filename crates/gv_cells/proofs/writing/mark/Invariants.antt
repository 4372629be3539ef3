use Rattle.std.proofs.Common.{◌≡◌, ◌++◌, take, drop, true}
use Rattle.std.specs.Prelude.{map}
use Rattle.gv_world.specs.Cells.{with_mark}
use Rattle.gv_cells.proofs.writing.mark.Given as goal

abbrev pub invariant-loop-cell : goal.invariant-loop-cell
invariant-loop-cell l = l.cells ≡ map (with_mark true) (take l.cell-index l.fn.cells) ++ drop l.cell-index l.fn.cells
