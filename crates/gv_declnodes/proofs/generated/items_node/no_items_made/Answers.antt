use Rattle.gv_declnodes.proofs.ItemsActs.{no_items_is}
use Rattle.gv_declnodes.proofs.generated.items_node.no_items_made.Goals as goal

pub returns : goal.returns
returns c = λ whole is. no_items_is c.args._text.now c.args._nodes.now c.args._at c.requires.made whole is
