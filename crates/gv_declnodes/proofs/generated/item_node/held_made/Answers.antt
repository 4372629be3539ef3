use Rattle.gv_declnodes.proofs.ItemActs.{held_is}
use Rattle.gv_declnodes.proofs.generated.item_node.held_made.Goals as goal

pub returns : goal.returns
returns c = λ whole is. held_is c.args.text.now c.args.nodes.now c.args.at c.place_of-held.result c.requires.made c.place_of-held.ensures whole is
