use Rattle.gv_declnodes.proofs.OpsActs.{op_is}
use Rattle.gv_declnodes.proofs.generated.ops_node.op_made.Goals as goal

pub returns : goal.returns
returns c = λ whole is. op_is c.args.text.now c.args.nodes.now c.args.at c.place_of-ops.result c.token_of-name.result c.place_of-block.result c.place_of-cuts.result c.requires.made c.place_of-ops.ensures c.token_of-name.ensures c.place_of-block.ensures c.place_of-cuts.ensures whole is
