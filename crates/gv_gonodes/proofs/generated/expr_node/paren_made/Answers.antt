use Rattle.gv_gonodes.proofs.ExprActs.{paren_is}
use Rattle.gv_gonodes.proofs.generated.expr_node.paren_made.Goals as goal

pub returns : goal.returns
returns c = λ whole is. paren_is c.args.nodes.now c.args.at c.token_of-start.result c.place_of-inner.result c.requires.made c.token_of-start.ensures c.place_of-inner.ensures whole is
