use Rattle.gv_gonodes.proofs.NamesActs.{in_parens_is}
use Rattle.gv_gonodes.proofs.generated.names_node.in_parens_made.Goals as goal

pub returns : goal.returns
returns c = λ whole is. in_parens_is c.args.nodes.now c.args.at c.place_of-names.result c.requires.made c.place_of-names.ensures whole is
