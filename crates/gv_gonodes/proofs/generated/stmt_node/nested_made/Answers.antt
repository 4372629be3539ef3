use Rattle.gv_gonodes.proofs.StmtActs.{nested_is}
use Rattle.gv_gonodes.proofs.generated.stmt_node.nested_made.Goals as goal

pub returns : goal.returns
returns c = λ whole is. nested_is c.args.nodes.now c.args.at c.place_of-block.result c.requires.made c.place_of-block.ensures whole is
