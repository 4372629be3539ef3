use Rattle.gv_gonodes.proofs.GoTypeActs.{pointer_type_is}
use Rattle.gv_gonodes.proofs.generated.go_type_node.pointer_type_made.Goals as goal

pub returns : goal.returns
returns c = λ whole is. pointer_type_is c.args.nodes.now c.args.at c.token_of-star.result c.place_of-to.result c.requires.made c.token_of-star.ensures c.place_of-to.ensures whole is
