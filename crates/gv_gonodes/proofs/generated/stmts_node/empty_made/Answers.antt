use Rattle.gv_gonodes.proofs.StmtsActs.{empty_is}
use Rattle.gv_gonodes.proofs.generated.stmts_node.empty_made.Goals as goal

pub returns : goal.returns
returns c = λ whole is. empty_is c.args.nodes.now c.args.at c.place_of-stmts.result c.requires.made c.place_of-stmts.ensures whole is
