use Rattle.gv_gonodes.proofs.CallActs.{pair_is}
use Rattle.gv_gonodes.proofs.generated.call_node.pair_made.Goals as goal

pub returns : goal.returns
returns c = λ whole is. pair_is c.args.nodes.now c.args.at c.token_of-word.result c.place_of-first.result c.place_of-second.result c.requires.made c.token_of-word.ensures c.place_of-first.ensures c.place_of-second.ensures whole is
