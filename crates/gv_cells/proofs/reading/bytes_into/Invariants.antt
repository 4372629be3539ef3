use Rattle.std.proofs.Common.{◌≡◌, take}
use Rattle.gv_world.specs.Cells.{bytes_in}
use Rattle.gv_cells.proofs.reading.bytes_into.Given as goal

abbrev pub invariant-loop-i : goal.invariant-loop-i
invariant-loop-i l = take l.i l.bytes ≡ bytes_in (take l.i l.cells)
