use Rattle.std.proofs.Common.{sym}
use Rattle.gv_terms.specs.Store.{tree_at}
use Rattle.gv_sums.proofs.Sorted.{fits_sorted}
use Rattle.gv_sums.proofs.whole_sums.is_plus.Goals as goal

pub is_known_over-requires-clause-sorted : goal.is_known_over-requires-clause-sorted
is_known_over-requires-clause-sorted c =
    let st = c.args.store.now in
    fits_sorted (tree_at st c.args.term.id) (tree_at st c.in-Some.parts.first.id, tree_at st c.in-Some.parts.second.id) c.sort_of-sort.result (sym c.in-Some.ensures.parts) c.sort_of-sort.ensures
