use Rattle.std.proofs.Common.{length, ap, ◌∙◌}
use Rattle.gv_trees.proofs.Sizes.{counted}
use Rattle.gv_trees.proofs.map.FiniteMap.len.Goals as goal

pub returns : goal.returns
returns g c = c.len.ensures ∙ counted c.self.inside.tree c.self.invariant.1 ∙ ap length c.self.view_is
