use Rattle.gv_gonodes.proofs.StmtActs.{if_else_is}
use Rattle.gv_gonodes.proofs.generated.stmt_node.if_else_made.Goals as goal

pub returns : goal.returns
returns c = λ whole is. if_else_is c.args.nodes.now c.args.at c.token_of-word.result c.place_of-condition.result c.place_of-body.result c.place_of-other.result c.requires.made c.token_of-word.ensures c.place_of-condition.ensures c.place_of-body.ensures c.place_of-other.ensures whole is
