use Rattle.gv_commandnodes.proofs.BlocksActs.{no_blocks_is}
use Rattle.gv_commandnodes.proofs.generated.blocks_node.no_blocks_made.Goals as goal

pub returns : goal.returns
returns c = λ whole is. no_blocks_is c.args._text.now c.args._nodes.now c.args._at c.requires.made whole is
