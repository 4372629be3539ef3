use Rattle.std.proofs.Common.{◌≡◌, replicate}
use Rattle.gv_world.specs.Slices.{new_cell}
use Rattle.gv_store.proofs.made.equal_cells.Given as goal

abbrev pub invariant-loop-i : goal.invariant-loop-i
invariant-loop-i l = l.cells.items ≡ replicate l._i (new_cell l.value)
