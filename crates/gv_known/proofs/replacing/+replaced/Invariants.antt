use Rattle.std.proofs.Common.{◌≡◌, map, take}
use Rattle.gv_terms.specs.Store.{tree_at, trees_at, AreIn, Grows}
use Rattle.gv_certs.specs.Trees.{replaced}
use Rattle.gv_known.proofs.replacing.+replaced.Given as goal

abbrev pub decreases-replaced : goal.decreases-replaced
decreases-replaced l = l.term.id

abbrev pub invariant-loop-i : goal.invariant-loop-i
invariant-loop-i l = record {
  grows : Grows l.fn.store l.store;
  within : AreIn l.store l.made.items;
  stand : trees_at l.store l.made.items ≡ map (replaced (tree_at l.fn.store l.from.id) (tree_at l.fn.store l.to.id)) (trees_at l.fn.store (take l.i l.items));
}
