use Rattle.gv_certnodes.proofs.FactorsActs.{no_factors_is}
use Rattle.gv_certnodes.proofs.generated.factors_node.no_factors_made.Goals as goal

pub returns : goal.returns
returns c = λ whole is. no_factors_is c.args._text.now c.args._nodes.now c.args._at c.requires.made whole is
