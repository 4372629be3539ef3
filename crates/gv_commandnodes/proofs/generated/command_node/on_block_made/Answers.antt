use Rattle.gv_commandnodes.proofs.CommandActs.{on_block_is}
use Rattle.gv_commandnodes.proofs.generated.command_node.on_block_made.Goals as goal

pub returns : goal.returns
returns c = λ whole is. on_block_is c.args.text.now c.args.nodes.now c.args.at c.token_of-word.result c.place_of-block.result c.requires.made c.token_of-word.ensures c.place_of-block.ensures whole is
