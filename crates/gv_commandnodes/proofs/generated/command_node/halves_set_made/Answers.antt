use Rattle.gv_commandnodes.proofs.CommandActs.{halves_set_is}
use Rattle.gv_commandnodes.proofs.generated.command_node.halves_set_made.Goals as goal

pub returns : goal.returns
returns c = λ whole is. halves_set_is c.args.text.now c.args.nodes.now c.args.at c.token_of-word.result c.place_of-name.result c.place_of-value.result c.requires.made c.token_of-word.ensures c.place_of-name.ensures c.place_of-value.ensures whole is
