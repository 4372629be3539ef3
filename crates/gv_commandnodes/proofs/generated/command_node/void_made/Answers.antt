use Rattle.gv_commandnodes.proofs.CommandActs.{void_is}
use Rattle.gv_commandnodes.proofs.generated.command_node.void_made.Goals as goal

pub returns : goal.returns
returns c = λ whole is. void_is c.args.text.now c.args.nodes.now c.args.at c.token_of-word.result c.token_of-item.result c.requires.made c.token_of-word.ensures c.token_of-item.ensures whole is
