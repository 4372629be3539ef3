use Rattle.std.proofs.Common.{◌≡◌, take}
use Rattle.gv_terms.specs.Store.{trees_at}
use Rattle.gv_terms.proofs.store.TermStore.+same.Given as goal

abbrev pub decreases-same : goal.decreases-same
decreases-same g l = l.a.id

abbrev pub invariant-loop-i : goal.invariant-loop-i
invariant-loop-i g l = trees_at l.self (take l.i l.these) ≡ trees_at l.self (take l.i l.those)
