use Rattle.gv_commandnodes.proofs.ArmsActs.{no_arms_is}
use Rattle.gv_commandnodes.proofs.generated.arms_node.no_arms_made.Goals as goal

pub returns : goal.returns
returns c = λ whole is. no_arms_is c.args._text.now c.args._nodes.now c.args._at c.requires.made whole is
