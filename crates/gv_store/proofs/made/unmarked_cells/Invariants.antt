use Rattle.std.proofs.Common.{◌≡◌, map, take}
use Rattle.gv_world.specs.Slices.{new_cell}
use Rattle.gv_store.proofs.made.unmarked_cells.Given as goal

abbrev pub invariant-loop-cell : goal.invariant-loop-cell
invariant-loop-cell l = l.unmarked.items ≡ map (λ c. new_cell c.value) (take l.cell-index l.cells)
