use Rattle.gv_commandnodes.proofs.ArmsActs.{next_arm_is}
use Rattle.gv_commandnodes.proofs.generated.arms_node.next_arm_made.Goals as goal

pub returns : goal.returns
returns c = λ whole is. next_arm_is c.args.text.now c.args.nodes.now c.args.at c.place_of-arms.result c.place_of-arm.result c.requires.made c.place_of-arms.ensures c.place_of-arm.ensures whole is
