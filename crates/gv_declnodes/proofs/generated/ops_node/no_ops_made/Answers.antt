use Rattle.gv_declnodes.proofs.OpsActs.{no_ops_is}
use Rattle.gv_declnodes.proofs.generated.ops_node.no_ops_made.Goals as goal

pub returns : goal.returns
returns c = λ whole is. no_ops_is c.args._text.now c.args._nodes.now c.args._at c.requires.made whole is
