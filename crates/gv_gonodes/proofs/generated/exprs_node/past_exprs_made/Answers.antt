use Rattle.gv_gonodes.proofs.ExprsActs.{past_exprs_is}
use Rattle.gv_gonodes.proofs.generated.exprs_node.past_exprs_made.Goals as goal

pub returns : goal.returns
returns c = λ whole is. past_exprs_is c.args.nodes.now c.args.at c.place_of-exprs.result c.requires.made c.place_of-exprs.ensures whole is
