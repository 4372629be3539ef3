use Rattle.gv_commandnodes.proofs.AtomActs.{field_atom_is}
use Rattle.gv_commandnodes.proofs.generated.atom_node.field_atom_made.Goals as goal

pub returns : goal.returns
returns c = λ whole is. field_atom_is c.args.text.now c.args.nodes.now c.args.at c.token_of-word.result c.token_of-name.result c.place_of-a.result c.requires.made c.token_of-word.ensures c.token_of-name.ensures c.place_of-a.ensures whole is
