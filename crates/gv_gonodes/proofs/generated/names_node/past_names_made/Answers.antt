use Rattle.gv_gonodes.proofs.NamesActs.{past_names_is}
use Rattle.gv_gonodes.proofs.generated.names_node.past_names_made.Goals as goal

pub returns : goal.returns
returns c = λ whole is. past_names_is c.args.nodes.now c.args.at c.place_of-names.result c.requires.made c.place_of-names.ensures whole is
