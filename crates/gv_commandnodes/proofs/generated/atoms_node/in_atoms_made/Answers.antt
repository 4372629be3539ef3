use Rattle.gv_commandnodes.proofs.AtomsActs.{in_atoms_is}
use Rattle.gv_commandnodes.proofs.generated.atoms_node.in_atoms_made.Goals as goal

pub returns : goal.returns
returns c = λ whole is. in_atoms_is c.args.text.now c.args.nodes.now c.args.at c.place_of-atoms.result c.requires.made c.place_of-atoms.ensures whole is
