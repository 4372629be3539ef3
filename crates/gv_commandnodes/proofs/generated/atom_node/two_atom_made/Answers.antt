use Rattle.gv_commandnodes.proofs.AtomActs.{two_atom_is}
use Rattle.gv_commandnodes.proofs.generated.atom_node.two_atom_made.Goals as goal

pub returns : goal.returns
returns c = λ whole is. two_atom_is c.args.text.now c.args.nodes.now c.args.at c.token_of-word.result c.place_of-a.result c.place_of-b.result c.requires.made c.token_of-word.ensures c.place_of-a.ensures c.place_of-b.ensures whole is
