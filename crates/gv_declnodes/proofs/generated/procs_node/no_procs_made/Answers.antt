use Rattle.gv_declnodes.proofs.ProcsActs.{no_procs_is}
use Rattle.gv_declnodes.proofs.generated.procs_node.no_procs_made.Goals as goal

pub returns : goal.returns
returns c = λ whole is. no_procs_is c.args._text.now c.args._nodes.now c.args._at c.requires.made whole is
