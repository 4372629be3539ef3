use Rattle.gv_gonodes.proofs.CallActs.{literal_is}
use Rattle.gv_gonodes.proofs.generated.call_node.literal_made.Goals as goal

pub returns : goal.returns
returns c = λ whole is. literal_is c.args.nodes.now c.args.at c.token_of-start.result c.token_of-name.result c.place_of-fields.result c.requires.made c.token_of-start.ensures c.token_of-name.ensures c.place_of-fields.ensures whole is
