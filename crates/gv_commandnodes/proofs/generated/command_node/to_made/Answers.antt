use Rattle.gv_commandnodes.proofs.CommandActs.{to_is}
use Rattle.gv_commandnodes.proofs.generated.command_node.to_made.Goals as goal

pub returns : goal.returns
returns c = λ whole is. to_is c.args.text.now c.args.nodes.now c.args.at c.token_of-word.result c.token_of-cut.result c.place_of-terms.result c.requires.made c.token_of-word.ensures c.token_of-cut.ensures c.place_of-terms.ensures whole is
