use Rattle.gv_declnodes.proofs.ItemsActs.{in_items_is}
use Rattle.gv_declnodes.proofs.generated.items_node.in_items_made.Goals as goal

pub returns : goal.returns
returns c = λ whole is. in_items_is c.args.text.now c.args.nodes.now c.args.at c.place_of-items.result c.requires.made c.place_of-items.ensures whole is
