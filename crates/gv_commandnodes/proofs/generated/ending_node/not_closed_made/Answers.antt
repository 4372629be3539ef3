use Rattle.gv_commandnodes.proofs.EndingActs.{not_closed_is}
use Rattle.gv_commandnodes.proofs.generated.ending_node.not_closed_made.Goals as goal

pub returns : goal.returns
returns c = λ whole is. not_closed_is c.args._text.now c.args._nodes.now c.args._at c.requires.made whole is
