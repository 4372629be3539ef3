use Rattle.gv_gonodes.proofs.BoundActs.{no_bound_is}
use Rattle.gv_gonodes.proofs.generated.bound_node.no_bound_made.Goals as goal

pub returns : goal.returns
returns c = λ whole is. no_bound_is c.args._nodes.now c.args._at c.requires.made whole is
