use Rattle.gv_gonodes.proofs.StmtActs.{var_value_is}
use Rattle.gv_gonodes.proofs.generated.stmt_node.var_value_made.Goals as goal

pub returns : goal.returns
returns c = λ whole is. var_value_is c.args.nodes.now c.args.at c.token_of-word.result c.token_of-name.result c.place_of-kind.result c.place_of-value.result c.requires.made c.token_of-word.ensures c.token_of-name.ensures c.place_of-kind.ensures c.place_of-value.ensures whole is
