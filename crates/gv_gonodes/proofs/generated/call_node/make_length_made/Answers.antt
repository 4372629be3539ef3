use Rattle.gv_gonodes.proofs.CallActs.{make_length_is}
use Rattle.gv_gonodes.proofs.generated.call_node.make_length_made.Goals as goal

pub returns : goal.returns
returns c = λ whole is. make_length_is c.args.nodes.now c.args.at c.token_of-word.result c.place_of-kind.result c.place_of-length.result c.requires.made c.token_of-word.ensures c.place_of-kind.ensures c.place_of-length.ensures whole is
