use Rattle.gv_gonodes.proofs.KeyedActs.{past_keyed_is}
use Rattle.gv_gonodes.proofs.generated.keyed_node.past_keyed_made.Goals as goal

pub returns : goal.returns
returns c = λ whole is. past_keyed_is c.args.nodes.now c.args.at c.place_of-fields.result c.requires.made c.place_of-fields.ensures whole is
