use Rattle.gv_gonodes.proofs.ExprActs.{constant_is}
use Rattle.gv_gonodes.proofs.generated.expr_node.constant_made.Goals as goal

pub returns : goal.returns
returns c = λ whole is. constant_is c.args.nodes.now c.args.at c.token_of-token.result c.requires.made c.token_of-token.ensures whole is
