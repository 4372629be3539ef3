use Rattle.gv_gonodes.proofs.ExprActs.{select_is}
use Rattle.gv_gonodes.proofs.generated.expr_node.select_made.Goals as goal

pub returns : goal.returns
returns c = λ whole is. select_is c.args.nodes.now c.args.at c.place_of-inner.result c.token_of-name.result c.requires.made c.place_of-inner.ensures c.token_of-name.ensures whole is
