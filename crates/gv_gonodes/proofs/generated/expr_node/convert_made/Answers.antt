use Rattle.gv_gonodes.proofs.ExprActs.{convert_is}
use Rattle.gv_gonodes.proofs.generated.expr_node.convert_made.Goals as goal

pub returns : goal.returns
returns c = λ whole is. convert_is c.args.nodes.now c.args.at c.token_of-word.result c.place_of-inner.result c.requires.made c.token_of-word.ensures c.place_of-inner.ensures whole is
