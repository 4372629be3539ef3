use Rattle.gv_gonodes.proofs.StmtsActs.{past_stmts_is}
use Rattle.gv_gonodes.proofs.generated.stmts_node.past_stmts_made.Goals as goal

pub returns : goal.returns
returns c = λ whole is. past_stmts_is c.args.nodes.now c.args.at c.place_of-stmts.result c.requires.made c.place_of-stmts.ensures whole is
