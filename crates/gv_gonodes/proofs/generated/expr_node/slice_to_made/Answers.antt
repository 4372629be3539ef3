use Rattle.gv_gonodes.proofs.ExprActs.{slice_to_is}
use Rattle.gv_gonodes.proofs.generated.expr_node.slice_to_made.Goals as goal

pub returns : goal.returns
returns c = λ whole is. slice_to_is c.args.nodes.now c.args.at c.place_of-inner.result c.place_of-high.result c.requires.made c.place_of-inner.ensures c.place_of-high.ensures whole is
