use Rattle.gv_commandnodes.proofs.CommandActs.{alone_is}
use Rattle.gv_commandnodes.proofs.generated.command_node.alone_made.Goals as goal

pub returns : goal.returns
returns c = λ whole is. alone_is c.args.text.now c.args.nodes.now c.args.at c.token_of-word.result c.requires.made c.token_of-word.ensures whole is
