use Rattle.std.proofs.Common.{◌≡◌, ◌+◌, drop}
use Rattle.gv_terms.specs.Store.{tree_at, trees_at}
use Rattle.gv_certs.specs.Sums.{place_in}
use Rattle.gv_sums.proofs.unknowns.place_in.Given as goal

abbrev pub invariant-loop-i : goal.invariant-loop-i
invariant-loop-i l = l.i + place_in (trees_at l.store (drop l.i l.unknowns)) (tree_at l.store l.term.id) ≡ place_in (trees_at l.store l.unknowns) (tree_at l.store l.term.id)
