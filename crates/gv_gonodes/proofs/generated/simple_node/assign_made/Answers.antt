use Rattle.gv_gonodes.proofs.SimpleActs.{assign_is}
use Rattle.gv_gonodes.proofs.generated.simple_node.assign_made.Goals as goal

pub returns : goal.returns
returns c = λ whole is. assign_is c.args.nodes.now c.args.at c.place_of-lefts.result c.token_of-sign.result c.place_of-right.result c.requires.made c.place_of-lefts.ensures c.token_of-sign.ensures c.place_of-right.ensures whole is
