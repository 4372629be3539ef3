use Rattle.gv_gonodes.proofs.KeyedActs.{keyed_is}
use Rattle.gv_gonodes.proofs.generated.keyed_node.keyed_made.Goals as goal

pub returns : goal.returns
returns c = λ whole is. keyed_is c.args.nodes.now c.args.at c.place_of-fields.result c.token_of-key.result c.place_of-value.result c.requires.made c.place_of-fields.ensures c.token_of-key.ensures c.place_of-value.ensures whole is
