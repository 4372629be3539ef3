use Rattle.gv_gonodes.proofs.RightActs.{value_is}
use Rattle.gv_gonodes.proofs.generated.right_node.value_made.Goals as goal

pub returns : goal.returns
returns c = λ whole is. value_is c.args.nodes.now c.args.at c.place_of-value.result c.requires.made c.place_of-value.ensures whole is
