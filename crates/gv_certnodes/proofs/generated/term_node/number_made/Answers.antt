use Rattle.gv_certnodes.proofs.TermActs.{number_is}
use Rattle.gv_certnodes.proofs.generated.term_node.number_made.Goals as goal

pub returns : goal.returns
returns c = λ whole is. number_is c.args.text.now c.args.nodes.now c.args.at c.token_of-token.result c.requires.made c.token_of-token.ensures whole is
