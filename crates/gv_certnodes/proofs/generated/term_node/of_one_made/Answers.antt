use Rattle.gv_certnodes.proofs.TermActs.{of_one_is}
use Rattle.gv_certnodes.proofs.generated.term_node.of_one_made.Goals as goal

pub returns : goal.returns
returns c = λ whole is. of_one_is c.args.text.now c.args.nodes.now c.args.at c.token_of-name.result c.place_of-a.result c.requires.made c.token_of-name.ensures c.place_of-a.ensures whole is
