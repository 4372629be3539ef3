use Rattle.gv_terms.specs.Store.{tree_at}
use Rattle.gv_known.proofs.Trees.{same_test}
use Rattle.gv_known.proofs.comparing.same.Goals as goal

pub returns : goal.returns
returns c = same_test c.counted.result (tree_at c.args.store.now c.args.a.id) (tree_at c.args.store.now c.args.b.id) c.counted.ensures
