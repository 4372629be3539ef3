use Rattle.gv_gonodes.proofs.GoTypeActs.{block_type_is}
use Rattle.gv_gonodes.proofs.generated.go_type_node.block_type_made.Goals as goal

pub returns : goal.returns
returns c = λ whole is. block_type_is c.args.nodes.now c.args.at c.token_of-word.result c.requires.made c.token_of-word.ensures whole is
