use Rattle.gv_declnodes.proofs.ItemActs.{fact_is}
use Rattle.gv_declnodes.proofs.generated.item_node.fact_made.Goals as goal

pub returns : goal.returns
returns c = λ whole is. fact_is c.args.text.now c.args.nodes.now c.args.at c.place_of-term.result c.requires.made c.place_of-term.ensures whole is
