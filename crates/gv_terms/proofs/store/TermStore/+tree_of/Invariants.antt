use Rattle.std.proofs.Common.{◌≡◌, take}
use Rattle.gv_terms.specs.Store.{trees_at}
use Rattle.gv_terms.proofs.store.TermStore.+tree_of.Given as goal

abbrev pub decreases-tree_of : goal.decreases-tree_of
decreases-tree_of l = l.t.id

abbrev pub invariant-loop-part : goal.invariant-loop-part
invariant-loop-part l = l.parts.items ≡ trees_at l.self (take l.part-index l.part-items)
