use Rattle.gv_gonodes.proofs.StmtActs.{if_is}
use Rattle.gv_gonodes.proofs.generated.stmt_node.if_made.Goals as goal

pub returns : goal.returns
returns c = λ whole is. if_is c.args.nodes.now c.args.at c.token_of-word.result c.place_of-condition.result c.place_of-body.result c.requires.made c.token_of-word.ensures c.place_of-condition.ensures c.place_of-body.ensures whole is
