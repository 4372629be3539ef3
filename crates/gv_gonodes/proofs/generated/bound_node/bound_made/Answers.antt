use Rattle.gv_gonodes.proofs.BoundActs.{bound_is}
use Rattle.gv_gonodes.proofs.generated.bound_node.bound_made.Goals as goal

pub returns : goal.returns
returns c = λ whole is. bound_is c.args.nodes.now c.args.at c.place_of-inner.result c.requires.made c.place_of-inner.ensures whole is
