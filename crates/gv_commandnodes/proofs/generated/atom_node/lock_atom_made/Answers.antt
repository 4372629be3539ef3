use Rattle.gv_commandnodes.proofs.AtomActs.{lock_atom_is}
use Rattle.gv_commandnodes.proofs.generated.atom_node.lock_atom_made.Goals as goal

pub returns : goal.returns
returns c = λ whole is. lock_atom_is c.args.text.now c.args.nodes.now c.args.at c.token_of-word.result c.place_of-a.result c.place_of-inst.result c.requires.made c.token_of-word.ensures c.place_of-a.ensures c.place_of-inst.ensures whole is
