use Rattle.gv_gonodes.proofs.ExprsActs.{expr_is}
use Rattle.gv_gonodes.proofs.generated.exprs_node.expr_made.Goals as goal

pub returns : goal.returns
returns c = λ whole is. expr_is c.args.nodes.now c.args.at c.place_of-exprs.result c.place_of-last.result c.requires.made c.place_of-exprs.ensures c.place_of-last.ensures whole is
