use Rattle.gv_declnodes.proofs.CutsActs.{no_cuts_is}
use Rattle.gv_declnodes.proofs.generated.cuts_node.no_cuts_made.Goals as goal

pub returns : goal.returns
returns c = λ whole is. no_cuts_is c.args._text.now c.args._nodes.now c.args._at c.requires.made whole is
