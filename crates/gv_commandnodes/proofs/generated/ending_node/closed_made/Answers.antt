use Rattle.gv_commandnodes.proofs.EndingActs.{closed_is}
use Rattle.gv_commandnodes.proofs.generated.ending_node.closed_made.Goals as goal

pub returns : goal.returns
returns c = λ whole is. closed_is c.args.text.now c.args.nodes.now c.args.at c.token_of-semi.result c.requires.made c.token_of-semi.ensures whole is
