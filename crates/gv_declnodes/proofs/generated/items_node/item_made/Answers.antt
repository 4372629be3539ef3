use Rattle.gv_declnodes.proofs.ItemsActs.{item_is}
use Rattle.gv_declnodes.proofs.generated.items_node.item_made.Goals as goal

pub returns : goal.returns
returns c = λ whole is. item_is c.args.text.now c.args.nodes.now c.args.at c.place_of-items.result c.place_of-next.result c.requires.made c.place_of-items.ensures c.place_of-next.ensures whole is
