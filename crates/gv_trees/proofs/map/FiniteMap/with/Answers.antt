use Rattle.std.proofs.Common.{◌≡◌, true, sym, subst}
use Rattle.gv_words.specs.Maps.{ascends}
use Rattle.gv_words.proofs.Ascending.{with_ascends}
use Rattle.gv_trees.specs.Trees.{entries}
use Rattle.gv_trees.proofs.map.FiniteMap.with.Goals as goal

pub invariant_of-result : goal.invariant_of-result
invariant_of-result g c = (
  subst (λ l. ascends l ≡ true) (sym (c.in_ok-tree.ensures.entries c.self.invariant.0)) (with_ascends (entries c.self.inside.tree) c.args.key c.args.item c.self.invariant.0),
  c.in_ok-tree.ensures.sized c.self.invariant.1,
)
