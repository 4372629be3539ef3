use Rattle.gv_gonodes.proofs.DeclActs.{func_is}
use Rattle.gv_gonodes.proofs.generated.decl_node.func_made.Goals as goal

pub returns : goal.returns
returns c = λ whole is. func_is c.args.nodes.now c.args.at c.place_of-receiver.result c.token_of-name.result c.place_of-params.result c.place_of-results.result c.place_of-body.result c.requires.made c.place_of-receiver.ensures c.token_of-name.ensures c.place_of-params.ensures c.place_of-results.ensures c.place_of-body.ensures whole is
