use Rattle.gv_gonodes.proofs.PartActs.{part_is}
use Rattle.gv_gonodes.proofs.generated.part_node.part_made.Goals as goal

pub returns : goal.returns
returns c = λ whole is. part_is c.args.nodes.now c.args.at c.place_of-simple.result c.requires.made c.place_of-simple.ensures whole is
