use Rattle.gv_gonodes.proofs.GoTypeActs.{slice_type_is}
use Rattle.gv_gonodes.proofs.generated.go_type_node.slice_type_made.Goals as goal

pub returns : goal.returns
returns c = λ whole is. slice_type_is c.args.nodes.now c.args.at c.token_of-start.result c.token_of-word.result c.requires.made c.token_of-start.ensures c.token_of-word.ensures whole is
