use Rattle.gv_commandnodes.proofs.MaybeBlockActs.{during_is}
use Rattle.gv_commandnodes.proofs.generated.maybe_block_node.during_made.Goals as goal

pub returns : goal.returns
returns c = λ whole is. during_is c.args.text.now c.args.nodes.now c.args.at c.place_of-block.result c.requires.made c.place_of-block.ensures whole is
