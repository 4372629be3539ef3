use Rattle.gv_commandnodes.proofs.CommandActs.{on_atom_is}
use Rattle.gv_commandnodes.proofs.generated.command_node.on_atom_made.Goals as goal

pub returns : goal.returns
returns c = λ whole is. on_atom_is c.args.text.now c.args.nodes.now c.args.at c.token_of-word.result c.place_of-on.result c.requires.made c.token_of-word.ensures c.place_of-on.ensures whole is
