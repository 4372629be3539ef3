use Rattle.gv_gonodes.proofs.GoTypeActs.{map_type_is}
use Rattle.gv_gonodes.proofs.generated.go_type_node.map_type_made.Goals as goal

pub returns : goal.returns
returns c = λ whole is. map_type_is c.args.nodes.now c.args.at c.token_of-word.result c.requires.made c.token_of-word.ensures whole is
