use Rattle.gv_commandnodes.proofs.BlockActs.{block_is}
use Rattle.gv_commandnodes.proofs.generated.block_node.block_made.Goals as goal

pub returns : goal.returns
returns c = λ whole is. block_is c.args.text.now c.args.nodes.now c.args.at c.token_of-start.result c.place_of-commands.result c.token_of-end.result c.requires.made c.token_of-start.ensures c.place_of-commands.ensures c.token_of-end.ensures whole is
