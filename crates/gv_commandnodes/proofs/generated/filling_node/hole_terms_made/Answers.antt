use Rattle.gv_commandnodes.proofs.FillingActs.{hole_terms_is}
use Rattle.gv_commandnodes.proofs.generated.filling_node.hole_terms_made.Goals as goal

pub returns : goal.returns
returns c = λ whole is. hole_terms_is c.args.text.now c.args.nodes.now c.args.at c.token_of-hole.result c.requires.made c.token_of-hole.ensures whole is
