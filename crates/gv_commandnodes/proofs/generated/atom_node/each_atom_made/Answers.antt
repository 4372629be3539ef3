use Rattle.gv_commandnodes.proofs.AtomActs.{each_atom_is}
use Rattle.gv_commandnodes.proofs.generated.atom_node.each_atom_made.Goals as goal

pub returns : goal.returns
returns c = λ whole is. each_atom_is c.args.text.now c.args.nodes.now c.args.at c.token_of-word.result c.token_of-name.result c.place_of-low.result c.place_of-high.result c.place_of-except.result c.place_of-body.result c.requires.made c.token_of-word.ensures c.token_of-name.ensures c.place_of-low.ensures c.place_of-high.ensures c.place_of-except.ensures c.place_of-body.ensures whole is
