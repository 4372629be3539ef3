use Rattle.gv_gonodes.proofs.PointedActs.{mutex_is}
use Rattle.gv_gonodes.proofs.generated.pointed_node.mutex_made.Goals as goal

pub returns : goal.returns
returns c = λ whole is. mutex_is c.args.nodes.now c.args.at c.token_of-word.result c.requires.made c.token_of-word.ensures whole is
