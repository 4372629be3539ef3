use Rattle.gv_certnodes.proofs.TermActs.{of_two_is}
use Rattle.gv_certnodes.proofs.generated.term_node.of_two_made.Goals as goal

pub returns : goal.returns
returns c = λ whole is. of_two_is c.args.text.now c.args.nodes.now c.args.at c.token_of-name.result c.place_of-a.result c.place_of-b.result c.requires.made c.token_of-name.ensures c.place_of-a.ensures c.place_of-b.ensures whole is
