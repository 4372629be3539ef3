use Rattle.gv_commandnodes.proofs.CommandActs.{unfold_arms_is}
use Rattle.gv_commandnodes.proofs.generated.command_node.unfold_arms_made.Goals as goal

pub returns : goal.returns
returns c = λ whole is. unfold_arms_is c.args.text.now c.args.nodes.now c.args.at c.token_of-word.result c.place_of-inst.result c.place_of-arms.result c.requires.made c.token_of-word.ensures c.place_of-inst.ensures c.place_of-arms.ensures whole is
