use Rattle.gv_commandnodes.proofs.AtomActs.{done_atom_is}
use Rattle.gv_commandnodes.proofs.generated.atom_node.done_atom_made.Goals as goal

pub returns : goal.returns
returns c = λ whole is. done_atom_is c.args.text.now c.args.nodes.now c.args.at c.token_of-word.result c.place_of-a.result c.place_of-reply.result c.requires.made c.token_of-word.ensures c.place_of-a.ensures c.place_of-reply.ensures whole is
