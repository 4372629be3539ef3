use Rattle.gv_gonodes.proofs.DeclActs.{const_is}
use Rattle.gv_gonodes.proofs.generated.decl_node.const_made.Goals as goal

pub returns : goal.returns
returns c = λ whole is. const_is c.args.nodes.now c.args.at c.token_of-name.result c.place_of-value.result c.requires.made c.token_of-name.ensures c.place_of-value.ensures whole is
