use Rattle.gv_gonodes.proofs.ExprActs.{index_is}
use Rattle.gv_gonodes.proofs.generated.expr_node.index_made.Goals as goal

pub returns : goal.returns
returns c = λ whole is. index_is c.args.nodes.now c.args.at c.place_of-inner.result c.place_of-index.result c.requires.made c.place_of-inner.ensures c.place_of-index.ensures whole is
