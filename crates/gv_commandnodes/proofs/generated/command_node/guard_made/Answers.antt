use Rattle.gv_commandnodes.proofs.CommandActs.{guard_is}
use Rattle.gv_commandnodes.proofs.generated.command_node.guard_made.Goals as goal

pub returns : goal.returns
returns c = λ whole is. guard_is c.args.text.now c.args.nodes.now c.args.at c.token_of-word.result c.place_of-mutex.result c.place_of-inst.result c.requires.made c.token_of-word.ensures c.place_of-mutex.ensures c.place_of-inst.ensures whole is
