use Rattle.gv_commandnodes.proofs.NamesActs.{word_names_is}
use Rattle.gv_commandnodes.proofs.generated.names_node.word_names_made.Goals as goal

pub returns : goal.returns
returns c = λ whole is. word_names_is c.args.text.now c.args.nodes.now c.args.at c.place_of-names.result c.requires.made c.place_of-names.ensures whole is
