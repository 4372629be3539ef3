use Rattle.gv_gonodes.proofs.DeclActs.{typed_const_is}
use Rattle.gv_gonodes.proofs.generated.decl_node.typed_const_made.Goals as goal

pub returns : goal.returns
returns c = λ whole is. typed_const_is c.args.nodes.now c.args.at c.token_of-name.result c.token_of-kind.result c.place_of-value.result c.requires.made c.token_of-name.ensures c.token_of-kind.ensures c.place_of-value.ensures whole is
