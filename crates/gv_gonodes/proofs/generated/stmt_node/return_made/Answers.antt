use Rattle.gv_gonodes.proofs.StmtActs.{return_is}
use Rattle.gv_gonodes.proofs.generated.stmt_node.return_made.Goals as goal

pub returns : goal.returns
returns c = λ whole is. return_is c.args.nodes.now c.args.at c.token_of-word.result c.place_of-rights.result c.requires.made c.token_of-word.ensures c.place_of-rights.ensures whole is
