use Rattle.gv_commandnodes.proofs.AtomsActs.{no_atoms_is}
use Rattle.gv_commandnodes.proofs.generated.atoms_node.no_atoms_made.Goals as goal

pub returns : goal.returns
returns c = λ whole is. no_atoms_is c.args._text.now c.args._nodes.now c.args._at c.requires.made whole is
