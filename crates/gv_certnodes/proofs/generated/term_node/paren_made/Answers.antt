use Rattle.gv_certnodes.proofs.TermActs.{paren_is}
use Rattle.gv_certnodes.proofs.generated.term_node.paren_made.Goals as goal

pub returns : goal.returns
returns c = λ whole is. paren_is c.args.text.now c.args.nodes.now c.args.at c.token_of-brace.result c.place_of-inner.result c.requires.made c.token_of-brace.ensures c.place_of-inner.ensures whole is
