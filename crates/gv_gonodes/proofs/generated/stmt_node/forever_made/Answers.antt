use Rattle.gv_gonodes.proofs.StmtActs.{forever_is}
use Rattle.gv_gonodes.proofs.generated.stmt_node.forever_made.Goals as goal

pub returns : goal.returns
returns c = λ whole is. forever_is c.args.nodes.now c.args.at c.token_of-word.result c.place_of-body.result c.requires.made c.token_of-word.ensures c.place_of-body.ensures whole is
