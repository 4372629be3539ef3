use Rattle.gv_gonodes.proofs.ExprsActs.{left_is}
use Rattle.gv_gonodes.proofs.generated.exprs_node.left_made.Goals as goal

pub returns : goal.returns
returns c = λ whole is. left_is c.args.nodes.now c.args.at c.place_of-left.result c.requires.made c.place_of-left.ensures whole is
