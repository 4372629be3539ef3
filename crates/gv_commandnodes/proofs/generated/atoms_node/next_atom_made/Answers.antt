use Rattle.gv_commandnodes.proofs.AtomsActs.{next_atom_is}
use Rattle.gv_commandnodes.proofs.generated.atoms_node.next_atom_made.Goals as goal

pub returns : goal.returns
returns c = λ whole is. next_atom_is c.args.text.now c.args.nodes.now c.args.at c.place_of-atoms.result c.place_of-next.result c.requires.made c.place_of-atoms.ensures c.place_of-next.ensures whole is
