use Rattle.gv_gonodes.proofs.CallActs.{make_is}
use Rattle.gv_gonodes.proofs.generated.call_node.make_made.Goals as goal

pub returns : goal.returns
returns c = λ whole is. make_is c.args.nodes.now c.args.at c.token_of-word.result c.place_of-kind.result c.requires.made c.token_of-word.ensures c.place_of-kind.ensures whole is
