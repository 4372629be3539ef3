use Rattle.gv_gonodes.proofs.ReceiverActs.{no_receiver_is}
use Rattle.gv_gonodes.proofs.generated.receiver_node.no_receiver_made.Goals as goal

pub returns : goal.returns
returns c = λ whole is. no_receiver_is c.args._nodes.now c.args._at c.requires.made whole is
