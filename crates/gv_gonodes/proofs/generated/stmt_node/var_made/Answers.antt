use Rattle.gv_gonodes.proofs.StmtActs.{var_is}
use Rattle.gv_gonodes.proofs.generated.stmt_node.var_made.Goals as goal

pub returns : goal.returns
returns c = λ whole is. var_is c.args.nodes.now c.args.at c.token_of-word.result c.token_of-name.result c.place_of-kind.result c.requires.made c.token_of-word.ensures c.token_of-name.ensures c.place_of-kind.ensures whole is
