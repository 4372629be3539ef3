use Rattle.gv_commandnodes.proofs.AtomActs.{inst_atom_is}
use Rattle.gv_commandnodes.proofs.generated.atom_node.inst_atom_made.Goals as goal

pub returns : goal.returns
returns c = λ whole is. inst_atom_is c.args.text.now c.args.nodes.now c.args.at c.place_of-inst.result c.requires.made c.place_of-inst.ensures whole is
