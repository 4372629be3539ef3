use Rattle.gv_gonodes.proofs.SimpleActs.{do_is}
use Rattle.gv_gonodes.proofs.generated.simple_node.do_made.Goals as goal

pub returns : goal.returns
returns c = λ whole is. do_is c.args.nodes.now c.args.at c.place_of-done.result c.requires.made c.place_of-done.ensures whole is
