use Rattle.gv_gonodes.proofs.StmtActs.{while_is}
use Rattle.gv_gonodes.proofs.generated.stmt_node.while_made.Goals as goal

pub returns : goal.returns
returns c = λ whole is. while_is c.args.nodes.now c.args.at c.token_of-word.result c.place_of-condition.result c.place_of-body.result c.requires.made c.token_of-word.ensures c.place_of-condition.ensures c.place_of-body.ensures whole is
