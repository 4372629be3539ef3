use Rattle.std.proofs.Common.{◌≡◌, map, take}
use Rattle.gv_world.specs.Slices.{new_cell}
use Rattle.gv_store.proofs.made.value_cells.Given as goal

abbrev pub invariant-loop-item : goal.invariant-loop-item
invariant-loop-item l = l.cells.items ≡ map new_cell (take l.item-index l.items)
