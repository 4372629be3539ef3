use Rattle.gv_commandnodes.proofs.NamesActs.{next_name_is}
use Rattle.gv_commandnodes.proofs.generated.names_node.next_name_made.Goals as goal

pub returns : goal.returns
returns c = λ whole is. next_name_is c.args.text.now c.args.nodes.now c.args.at c.place_of-names.result c.token_of-name.result c.requires.made c.place_of-names.ensures c.token_of-name.ensures whole is
