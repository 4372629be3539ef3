use Rattle.gv_gonodes.proofs.RightsActs.{right_is}
use Rattle.gv_gonodes.proofs.generated.rights_node.right_made.Goals as goal

pub returns : goal.returns
returns c = λ whole is. right_is c.args.nodes.now c.args.at c.place_of-rights.result c.place_of-last.result c.requires.made c.place_of-rights.ensures c.place_of-last.ensures whole is
