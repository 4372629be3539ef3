use Rattle.gv_commandnodes.proofs.BlocksActs.{next_block_is}
use Rattle.gv_commandnodes.proofs.generated.blocks_node.next_block_made.Goals as goal

pub returns : goal.returns
returns c = λ whole is. next_block_is c.args.text.now c.args.nodes.now c.args.at c.place_of-blocks.result c.place_of-block.result c.requires.made c.place_of-blocks.ensures c.place_of-block.ensures whole is
