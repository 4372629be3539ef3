use Rattle.std.proofs.Common.{◌≡◌, map, take}
use Rattle.gv_terms.specs.Store.{trees_at}
use Rattle.gv_sums.specs.Reading.{numbered_at}
use Rattle.gv_sums.proofs.numbering.numbered.Given as goal

abbrev pub invariant-loop-i : goal.invariant-loop-i
invariant-loop-i l = l.all.items ≡ map (numbered_at l.store (trees_at l.store l.unknowns)) (take l.i l.summands)
