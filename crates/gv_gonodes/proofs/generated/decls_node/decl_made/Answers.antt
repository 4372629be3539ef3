use Rattle.gv_gonodes.proofs.DeclsActs.{decl_is}
use Rattle.gv_gonodes.proofs.generated.decls_node.decl_made.Goals as goal

pub returns : goal.returns
returns c = λ whole is. decl_is c.args.nodes.now c.args.at c.place_of-decls.result c.place_of-decl.result c.requires.made c.place_of-decls.ensures c.place_of-decl.ensures whole is
