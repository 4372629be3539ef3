use Rattle.gv_commandnodes.proofs.CommandActs.{at_is}
use Rattle.gv_commandnodes.proofs.generated.command_node.at_made.Goals as goal

pub returns : goal.returns
returns c = λ whole is. at_is c.args.text.now c.args.nodes.now c.args.at c.token_of-word.result c.place_of-on.result c.place_of-term.result c.requires.made c.token_of-word.ensures c.place_of-on.ensures c.place_of-term.ensures whole is
