use Rattle.gv_commandnodes.proofs.CommandActs.{map_is}
use Rattle.gv_commandnodes.proofs.generated.command_node.map_made.Goals as goal

pub returns : goal.returns
returns c = λ whole is. map_is c.args.text.now c.args.nodes.now c.args.at c.token_of-word.result c.place_of-old.result c.place_of-new.result c.token_of-name.result c.place_of-block.result c.requires.made c.token_of-word.ensures c.place_of-old.ensures c.place_of-new.ensures c.token_of-name.ensures c.place_of-block.ensures whole is
