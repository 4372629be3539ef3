use Rattle.gv_gonodes.proofs.TypesActs.{past_types_is}
use Rattle.gv_gonodes.proofs.generated.types_node.past_types_made.Goals as goal

pub returns : goal.returns
returns c = λ whole is. past_types_is c.args.nodes.now c.args.at c.place_of-types.result c.requires.made c.place_of-types.ensures whole is
