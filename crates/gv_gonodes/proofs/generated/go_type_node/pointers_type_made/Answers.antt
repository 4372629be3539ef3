use Rattle.gv_gonodes.proofs.GoTypeActs.{pointers_type_is}
use Rattle.gv_gonodes.proofs.generated.go_type_node.pointers_type_made.Goals as goal

pub returns : goal.returns
returns c = λ whole is. pointers_type_is c.args.nodes.now c.args.at c.token_of-start.result c.place_of-to.result c.requires.made c.token_of-start.ensures c.place_of-to.ensures whole is
