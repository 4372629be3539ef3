use Rattle.gv_declnodes.proofs.PredsActs.{no_preds_is}
use Rattle.gv_declnodes.proofs.generated.preds_node.no_preds_made.Goals as goal

pub returns : goal.returns
returns c = λ whole is. no_preds_is c.args._text.now c.args._nodes.now c.args._at c.requires.made whole is
