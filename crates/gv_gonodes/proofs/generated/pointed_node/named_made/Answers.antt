use Rattle.gv_gonodes.proofs.PointedActs.{named_is}
use Rattle.gv_gonodes.proofs.generated.pointed_node.named_made.Goals as goal

pub returns : goal.returns
returns c = λ whole is. named_is c.args.nodes.now c.args.at c.token_of-name.result c.requires.made c.token_of-name.ensures whole is
