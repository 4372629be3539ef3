use Rattle.gv_gonodes.proofs.ExprActs.{slice_from_is}
use Rattle.gv_gonodes.proofs.generated.expr_node.slice_from_made.Goals as goal

pub returns : goal.returns
returns c = λ whole is. slice_from_is c.args.nodes.now c.args.at c.place_of-inner.result c.place_of-low.result c.place_of-high.result c.requires.made c.place_of-inner.ensures c.place_of-low.ensures c.place_of-high.ensures whole is
