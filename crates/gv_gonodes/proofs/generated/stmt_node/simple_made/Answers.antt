use Rattle.gv_gonodes.proofs.StmtActs.{simple_is}
use Rattle.gv_gonodes.proofs.generated.stmt_node.simple_made.Goals as goal

pub returns : goal.returns
returns c = λ whole is. simple_is c.args.nodes.now c.args.at c.place_of-simple.result c.requires.made c.place_of-simple.ensures whole is
