use Rattle.gv_gonodes.proofs.RightActs.{result_is}
use Rattle.gv_gonodes.proofs.generated.right_node.result_made.Goals as goal

pub returns : goal.returns
returns c = λ whole is. result_is c.args.nodes.now c.args.at c.place_of-result.result c.requires.made c.place_of-result.ensures whole is
