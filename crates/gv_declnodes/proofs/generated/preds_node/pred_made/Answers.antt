use Rattle.gv_declnodes.proofs.PredsActs.{pred_is}
use Rattle.gv_declnodes.proofs.generated.preds_node.pred_made.Goals as goal

pub returns : goal.returns
returns c = λ whole is. pred_is c.args.text.now c.args.nodes.now c.args.at c.place_of-preds.result c.token_of-name.result c.place_of-params.result c.place_of-cases.result c.requires.made c.place_of-preds.ensures c.token_of-name.ensures c.place_of-params.ensures c.place_of-cases.ensures whole is
