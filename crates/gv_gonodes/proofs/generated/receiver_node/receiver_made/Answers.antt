use Rattle.gv_gonodes.proofs.ReceiverActs.{receiver_is}
use Rattle.gv_gonodes.proofs.generated.receiver_node.receiver_made.Goals as goal

pub returns : goal.returns
returns c = λ whole is. receiver_is c.args.nodes.now c.args.at c.token_of-name.result c.token_of-of.result c.requires.made c.token_of-name.ensures c.token_of-of.ensures whole is
