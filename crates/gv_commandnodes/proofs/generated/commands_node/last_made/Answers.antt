use Rattle.gv_commandnodes.proofs.CommandsActs.{last_is}
use Rattle.gv_commandnodes.proofs.generated.commands_node.last_made.Goals as goal

pub returns : goal.returns
returns c = λ whole is. last_is c.args.text.now c.args.nodes.now c.args.at c.place_of-commands.result c.place_of-last.result c.requires.made c.place_of-commands.ensures c.place_of-last.ensures whole is
