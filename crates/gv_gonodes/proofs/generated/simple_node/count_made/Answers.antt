use Rattle.gv_gonodes.proofs.SimpleActs.{count_is}
use Rattle.gv_gonodes.proofs.generated.simple_node.count_made.Goals as goal

pub returns : goal.returns
returns c = λ whole is. count_is c.args.nodes.now c.args.at c.place_of-name.result c.token_of-sign.result c.requires.made c.place_of-name.ensures c.token_of-sign.ensures whole is
