use Rattle.std.proofs.Common.{◌≡◌, drop}
use Rattle.gv_terms.specs.Store.{tree_at, trees_at}
use Rattle.gv_certs.specs.Trees.{contains, equation}
use Rattle.gv_known.proofs.facts.contains_equation.Given as goal

abbrev pub invariant-loop-i : goal.invariant-loop-i
invariant-loop-i l = contains (trees_at l.store (drop l.i l.facts)) (equation (tree_at l.store l.a.id) (tree_at l.store l.b.id)) ≡ contains (trees_at l.store l.facts) (equation (tree_at l.store l.a.id) (tree_at l.store l.b.id))
