use Rattle.std.proofs.Common.{sym, ap, ◌∙◌}
use Rattle.gv_terms.specs.Store.{trees_at}
use Rattle.gv_terms.specs.Trees.{root_of}
use Rattle.gv_terms.proofs.Trees.{root_rooted}
use Rattle.gv_terms.proofs.store.TermStore.head_of.Goals as goal

pub returns : goal.returns
returns c =
    let n = c.node.result.now in
    sym (ap root_of c.node.ensures.shape ∙ root_rooted n.head (trees_at c.args.self.now n.parts))
