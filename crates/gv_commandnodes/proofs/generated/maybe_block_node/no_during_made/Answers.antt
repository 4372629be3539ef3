use Rattle.gv_commandnodes.proofs.MaybeBlockActs.{no_during_is}
use Rattle.gv_commandnodes.proofs.generated.maybe_block_node.no_during_made.Goals as goal

pub returns : goal.returns
returns c = λ whole is. no_during_is c.args._text.now c.args._nodes.now c.args._at c.requires.made whole is
