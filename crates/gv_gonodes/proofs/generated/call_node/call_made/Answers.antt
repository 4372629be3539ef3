use Rattle.gv_gonodes.proofs.CallActs.{call_is}
use Rattle.gv_gonodes.proofs.generated.call_node.call_made.Goals as goal

pub returns : goal.returns
returns c = λ whole is. call_is c.args.nodes.now c.args.at c.place_of-function.result c.place_of-arguments.result c.requires.made c.place_of-function.ensures c.place_of-arguments.ensures whole is
