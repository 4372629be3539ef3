use Rattle.gv_commandnodes.proofs.CommandActs.{fold_is}
use Rattle.gv_commandnodes.proofs.generated.command_node.fold_made.Goals as goal

pub returns : goal.returns
returns c = λ whole is. fold_is c.args.text.now c.args.nodes.now c.args.at c.token_of-word.result c.place_of-inst.result c.token_of-number.result c.place_of-filling.result c.requires.made c.token_of-word.ensures c.place_of-inst.ensures c.token_of-number.ensures c.place_of-filling.ensures whole is
