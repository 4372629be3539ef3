use Rattle.gv_gonodes.proofs.StmtActs.{jump_is}
use Rattle.gv_gonodes.proofs.generated.stmt_node.jump_made.Goals as goal

pub returns : goal.returns
returns c = λ whole is. jump_is c.args.nodes.now c.args.at c.token_of-word.result c.requires.made c.token_of-word.ensures whole is
