use Rattle.gv_gonodes.proofs.DeclActs.{struct_is}
use Rattle.gv_gonodes.proofs.generated.decl_node.struct_made.Goals as goal

pub returns : goal.returns
returns c = λ whole is. struct_is c.args.nodes.now c.args.at c.token_of-name.result c.place_of-fields.result c.requires.made c.token_of-name.ensures c.place_of-fields.ensures whole is
