use Rattle.gv_declnodes.proofs.MaybeInstActs.{own_is}
use Rattle.gv_declnodes.proofs.generated.maybe_inst_node.own_made.Goals as goal

pub returns : goal.returns
returns c = λ whole is. own_is c.args.text.now c.args.nodes.now c.args.at c.place_of-inst.result c.requires.made c.place_of-inst.ensures whole is
