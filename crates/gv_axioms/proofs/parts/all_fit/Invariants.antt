use Rattle.std.proofs.Common.{◌≡◌, ℕ, ◌<◌, drop, slice_index_or}
use Rattle.std.specs.Prelude.{IsSome}
use Rattle.gv_terms.specs.Store.{tree_at, trees_at}
use Rattle.gv_terms.specs.Trees.{sort_of}
use Rattle.gv_axioms.specs.Filling as spec
use Rattle.gv_axioms.specs.Instances.{no_term}
use Rattle.gv_axioms.proofs.parts.all_fit.Given as goal

abbrev pub invariant-loop-i : goal.invariant-loop-i
invariant-loop-i l = record {
  rest : spec.all_fit (trees_at l.store l.parts) (trees_at l.store (drop l.i l.parts)) (drop l.i l.kinds) ≡ spec.all_fit (trees_at l.store l.parts) (trees_at l.store l.parts) l.kinds;
  sorted : (k : ℕ) → k < l.i → IsSome (sort_of (tree_at l.store (slice_index_or l.parts k no_term).id));
}
