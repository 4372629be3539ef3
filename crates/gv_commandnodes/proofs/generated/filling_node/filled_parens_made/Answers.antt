use Rattle.gv_commandnodes.proofs.FillingActs.{filled_parens_is}
use Rattle.gv_commandnodes.proofs.generated.filling_node.filled_parens_made.Goals as goal

pub returns : goal.returns
returns c = λ whole is. filled_parens_is c.args.text.now c.args.nodes.now c.args.at c.place_of-terms.result c.requires.made c.place_of-terms.ensures whole is
