use Rattle.gv_gonodes.proofs.ExprsActs.{no_exprs_is}
use Rattle.gv_gonodes.proofs.generated.exprs_node.no_exprs_made.Goals as goal

pub returns : goal.returns
returns c = λ whole is. no_exprs_is c.args._nodes.now c.args._at c.requires.made whole is
