use Rattle.gv_gonodes.proofs.TypesActs.{type_is}
use Rattle.gv_gonodes.proofs.generated.types_node.type_made.Goals as goal

pub returns : goal.returns
returns c = λ whole is. type_is c.args.nodes.now c.args.at c.place_of-types.result c.place_of-kind.result c.requires.made c.place_of-types.ensures c.place_of-kind.ensures whole is
