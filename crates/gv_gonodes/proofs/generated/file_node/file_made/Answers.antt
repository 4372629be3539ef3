use Rattle.gv_gonodes.proofs.FileActs.{file_is}
use Rattle.gv_gonodes.proofs.generated.file_node.file_made.Goals as goal

pub returns : goal.returns
returns c = λ whole is. file_is c.args.nodes.now c.args.at c.token_of-name.result c.place_of-imports.result c.place_of-decls.result c.requires.made c.token_of-name.ensures c.place_of-imports.ensures c.place_of-decls.ensures whole is
