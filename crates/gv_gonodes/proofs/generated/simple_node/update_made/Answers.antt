use Rattle.gv_gonodes.proofs.SimpleActs.{update_is}
use Rattle.gv_gonodes.proofs.generated.simple_node.update_made.Goals as goal

pub returns : goal.returns
returns c = λ whole is. update_is c.args.nodes.now c.args.at c.place_of-name.result c.token_of-sign.result c.place_of-value.result c.requires.made c.place_of-name.ensures c.token_of-sign.ensures c.place_of-value.ensures whole is
