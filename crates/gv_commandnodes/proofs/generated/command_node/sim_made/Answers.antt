use Rattle.gv_commandnodes.proofs.CommandActs.{sim_is}
use Rattle.gv_commandnodes.proofs.generated.command_node.sim_made.Goals as goal

pub returns : goal.returns
returns c = λ whole is. sim_is c.args.text.now c.args.nodes.now c.args.at c.token_of-word.result c.place_of-call.result c.place_of-choices.result c.requires.made c.token_of-word.ensures c.place_of-call.ensures c.place_of-choices.ensures whole is
