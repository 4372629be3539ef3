use Rattle.gv_declnodes.proofs.MaybeInstActs.{no_own_is}
use Rattle.gv_declnodes.proofs.generated.maybe_inst_node.no_own_made.Goals as goal

pub returns : goal.returns
returns c = λ whole is. no_own_is c.args._text.now c.args._nodes.now c.args._at c.requires.made whole is
