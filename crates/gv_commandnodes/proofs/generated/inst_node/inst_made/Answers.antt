use Rattle.gv_commandnodes.proofs.InstActs.{inst_is}
use Rattle.gv_commandnodes.proofs.generated.inst_node.inst_made.Goals as goal

pub returns : goal.returns
returns c = λ whole is. inst_is c.args.text.now c.args.nodes.now c.args.at c.token_of-name.result c.place_of-terms.result c.requires.made c.token_of-name.ensures c.place_of-terms.ensures whole is
