use Rattle.gv_commandnodes.proofs.CommandActs.{at_hole_is}
use Rattle.gv_commandnodes.proofs.generated.command_node.at_hole_made.Goals as goal

pub returns : goal.returns
returns c = λ whole is. at_hole_is c.args.text.now c.args.nodes.now c.args.at c.token_of-word.result c.token_of-hole.result c.place_of-term.result c.requires.made c.token_of-word.ensures c.token_of-hole.ensures c.place_of-term.ensures whole is
