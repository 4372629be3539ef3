use Rattle.gv_gonodes.proofs.DeclsActs.{no_decls_is}
use Rattle.gv_gonodes.proofs.generated.decls_node.no_decls_made.Goals as goal

pub returns : goal.returns
returns c = λ whole is. no_decls_is c.args._nodes.now c.args._at c.requires.made whole is
