use Rattle.gv_gonodes.proofs.StmtsActs.{stmt_is}
use Rattle.gv_gonodes.proofs.generated.stmts_node.stmt_made.Goals as goal

pub returns : goal.returns
returns c = λ whole is. stmt_is c.args.nodes.now c.args.at c.place_of-stmts.result c.place_of-stmt.result c.requires.made c.place_of-stmts.ensures c.place_of-stmt.ensures whole is
