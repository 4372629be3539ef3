use Rattle.gv_certnodes.proofs.FactorActs.{negative_is}
use Rattle.gv_certnodes.proofs.generated.factor_node.negative_made.Goals as goal

pub returns : goal.returns
returns c = λ whole is. negative_is c.args.text.now c.args.nodes.now c.args.at c.token_of-minus.result c.token_of-number.result c.place_of-term.result c.requires.made c.token_of-minus.ensures c.token_of-number.ensures c.place_of-term.ensures whole is
