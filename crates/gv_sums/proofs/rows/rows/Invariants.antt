use Rattle.std.proofs.Common.{map, take, length}
use Rattle.gv_terms.specs.Store.{trees_at}
use Rattle.gv_certs.specs.Sums.{row_of}
use Rattle.gv_sums.specs.Reading.{comparisons_at, AreLike}
use Rattle.gv_sums.proofs.rows.rows.Given as goal

abbrev pub invariant-loop-i : goal.invariant-loop-i
invariant-loop-i l = AreLike (length l.unknowns) l.rows.items (map (row_of (trees_at l.store l.sums) (trees_at l.store l.unknowns)) (comparisons_at l.store (take l.i l.comparisons)))
