use Rattle.gv_declnodes.proofs.ParsActs.{no_pars_is}
use Rattle.gv_declnodes.proofs.generated.pars_node.no_pars_made.Goals as goal

pub returns : goal.returns
returns c = λ whole is. no_pars_is c.args._text.now c.args._nodes.now c.args._at c.requires.made whole is
