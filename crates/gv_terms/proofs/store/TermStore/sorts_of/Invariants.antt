use Rattle.std.proofs.Common.{◌≡◌, Some, map, take}
use Rattle.gv_terms.specs.Trees.{sort_of}
use Rattle.gv_terms.specs.Store.{trees_at}
use Rattle.gv_terms.proofs.store.TermStore.sorts_of.Given as goal

abbrev pub invariant-loop-part : goal.invariant-loop-part
invariant-loop-part l = map sort_of (trees_at l.self (take l.part-index l.parts)) ≡ map (λ s. Some s) l.sorts.items
