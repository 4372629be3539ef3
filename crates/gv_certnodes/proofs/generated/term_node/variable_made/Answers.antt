use Rattle.gv_certnodes.proofs.TermActs.{variable_is}
use Rattle.gv_certnodes.proofs.generated.term_node.variable_made.Goals as goal

pub returns : goal.returns
returns c = λ whole is. variable_is c.args.text.now c.args.nodes.now c.args.at c.token_of-name.result c.requires.made c.token_of-name.ensures whole is
