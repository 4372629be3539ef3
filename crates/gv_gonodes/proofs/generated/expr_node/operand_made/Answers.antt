use Rattle.gv_gonodes.proofs.ExprActs.{operand_is}
use Rattle.gv_gonodes.proofs.generated.expr_node.operand_made.Goals as goal

pub returns : goal.returns
returns c = λ whole is. operand_is c.args.nodes.now c.args.at c.token_of-name.result c.requires.made c.token_of-name.ensures whole is
