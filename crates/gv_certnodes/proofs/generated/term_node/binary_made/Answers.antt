use Rattle.gv_certnodes.proofs.TermActs.{binary_is}
use Rattle.gv_certnodes.proofs.generated.term_node.binary_made.Goals as goal

pub returns : goal.returns
returns c = λ whole is. binary_is c.args.text.now c.args.nodes.now c.args.at c.place_of-left.result c.token_of-sign.result c.place_of-right.result c.requires.made c.place_of-left.ensures c.token_of-sign.ensures c.place_of-right.ensures whole is
