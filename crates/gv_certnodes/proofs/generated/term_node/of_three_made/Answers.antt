use Rattle.gv_certnodes.proofs.TermActs.{of_three_is}
use Rattle.gv_certnodes.proofs.generated.term_node.of_three_made.Goals as goal

pub returns : goal.returns
returns c = λ whole is. of_three_is c.args.text.now c.args.nodes.now c.args.at c.token_of-name.result c.place_of-a.result c.place_of-b.result c.place_of-c.result c.requires.made c.token_of-name.ensures c.place_of-a.ensures c.place_of-b.ensures c.place_of-c.ensures whole is
