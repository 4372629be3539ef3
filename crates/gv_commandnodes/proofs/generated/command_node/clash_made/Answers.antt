use Rattle.gv_commandnodes.proofs.CommandActs.{clash_is}
use Rattle.gv_commandnodes.proofs.generated.command_node.clash_made.Goals as goal

pub returns : goal.returns
returns c = λ whole is. clash_is c.args.text.now c.args.nodes.now c.args.at c.token_of-word.result c.place_of-atoms.result c.requires.made c.token_of-word.ensures c.place_of-atoms.ensures whole is
