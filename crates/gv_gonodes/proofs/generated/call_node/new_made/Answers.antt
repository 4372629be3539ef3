use Rattle.gv_gonodes.proofs.CallActs.{new_is}
use Rattle.gv_gonodes.proofs.generated.call_node.new_made.Goals as goal

pub returns : goal.returns
returns c = λ whole is. new_is c.args.nodes.now c.args.at c.token_of-word.result c.requires.made c.token_of-word.ensures whole is
