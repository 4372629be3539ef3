use Rattle.gv_commandnodes.proofs.CommandActs.{boot_is}
use Rattle.gv_commandnodes.proofs.generated.command_node.boot_made.Goals as goal

pub returns : goal.returns
returns c = λ whole is. boot_is c.args.text.now c.args.nodes.now c.args.at c.token_of-word.result c.place_of-choices.result c.requires.made c.token_of-word.ensures c.place_of-choices.ensures whole is
