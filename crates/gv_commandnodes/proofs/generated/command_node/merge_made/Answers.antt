use Rattle.gv_commandnodes.proofs.CommandActs.{merge_is}
use Rattle.gv_commandnodes.proofs.generated.command_node.merge_made.Goals as goal

pub returns : goal.returns
returns c = λ whole is. merge_is c.args.text.now c.args.nodes.now c.args.at c.token_of-word.result c.place_of-a.result c.place_of-b.result c.place_of-slice.result c.requires.made c.token_of-word.ensures c.place_of-a.ensures c.place_of-b.ensures c.place_of-slice.ensures whole is
