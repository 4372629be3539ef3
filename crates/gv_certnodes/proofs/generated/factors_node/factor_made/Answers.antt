use Rattle.gv_certnodes.proofs.FactorsActs.{factor_is}
use Rattle.gv_certnodes.proofs.generated.factors_node.factor_made.Goals as goal

pub returns : goal.returns
returns c = λ whole is. factor_is c.args.text.now c.args.nodes.now c.args.at c.place_of-factors.result c.place_of-factor.result c.requires.made c.place_of-factors.ensures c.place_of-factor.ensures whole is
