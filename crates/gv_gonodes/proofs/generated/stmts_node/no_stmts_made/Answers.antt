use Rattle.gv_gonodes.proofs.StmtsActs.{no_stmts_is}
use Rattle.gv_gonodes.proofs.generated.stmts_node.no_stmts_made.Goals as goal

pub returns : goal.returns
returns c = λ whole is. no_stmts_is c.args._nodes.now c.args._at c.requires.made whole is
