use Rattle.gv_certnodes.proofs.TermActs.{unary_is}
use Rattle.gv_certnodes.proofs.generated.term_node.unary_made.Goals as goal

pub returns : goal.returns
returns c = λ whole is. unary_is c.args.text.now c.args.nodes.now c.args.at c.token_of-sign.result c.place_of-inner.result c.requires.made c.token_of-sign.ensures c.place_of-inner.ensures whole is
