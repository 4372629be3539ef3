use Rattle.std.proofs.Common.{◌≡◌, take}
use Rattle.gv_world.specs.Disks.{byte_cells}
use Rattle.gv_store.proofs.made.byte_cells.Given as goal

abbrev pub invariant-loop-byte : goal.invariant-loop-byte
invariant-loop-byte l = l.cells.items ≡ byte_cells (take l.byte-index l.bytes)
