use Rattle.gv_certnodes.proofs.HavesActs.{no_haves_is}
use Rattle.gv_certnodes.proofs.generated.haves_node.no_haves_made.Goals as goal

pub returns : goal.returns
returns c = λ whole is. no_haves_is c.args._text.now c.args._nodes.now c.args._at c.requires.made whole is
