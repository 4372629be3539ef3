use Rattle.gv_certnodes.proofs.TermActs.{maker_is}
use Rattle.gv_certnodes.proofs.generated.term_node.maker_made.Goals as goal

pub returns : goal.returns
returns c = λ whole is. maker_is c.args.text.now c.args.nodes.now c.args.at c.token_of-name.result c.token_of-count.result c.place_of-item.result c.requires.made c.token_of-name.ensures c.token_of-count.ensures c.place_of-item.ensures whole is
