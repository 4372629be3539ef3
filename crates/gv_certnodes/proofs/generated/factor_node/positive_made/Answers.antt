use Rattle.gv_certnodes.proofs.FactorActs.{positive_is}
use Rattle.gv_certnodes.proofs.generated.factor_node.positive_made.Goals as goal

pub returns : goal.returns
returns c = λ whole is. positive_is c.args.text.now c.args.nodes.now c.args.at c.token_of-number.result c.place_of-term.result c.requires.made c.token_of-number.ensures c.place_of-term.ensures whole is
