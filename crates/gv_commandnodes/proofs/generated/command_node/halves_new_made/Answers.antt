use Rattle.gv_commandnodes.proofs.CommandActs.{halves_new_is}
use Rattle.gv_commandnodes.proofs.generated.command_node.halves_new_made.Goals as goal

pub returns : goal.returns
returns c = λ whole is. halves_new_is c.args.text.now c.args.nodes.now c.args.at c.token_of-word.result c.place_of-value.result c.token_of-name.result c.requires.made c.token_of-word.ensures c.place_of-value.ensures c.token_of-name.ensures whole is
