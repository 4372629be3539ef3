use Rattle.std.proofs.Common.{◌≡◌, take}
use Rattle.gv_world.specs.Cells.{overwritten}
use Rattle.gv_cells.proofs.writing.overwrite.Given as goal

abbrev pub invariant-loop-i : goal.invariant-loop-i
invariant-loop-i l = l.cells ≡ overwritten l.fn.cells (take l.i l.items)
