use Rattle.gv_commandnodes.proofs.CommandActs.{forget_is}
use Rattle.gv_commandnodes.proofs.generated.command_node.forget_made.Goals as goal

pub returns : goal.returns
returns c = λ whole is. forget_is c.args.text.now c.args.nodes.now c.args.at c.token_of-word.result c.place_of-disk.result c.place_of-place.result c.place_of-value.result c.requires.made c.token_of-word.ensures c.place_of-disk.ensures c.place_of-place.ensures c.place_of-value.ensures whole is
