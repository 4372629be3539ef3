use Rattle.gv_commandnodes.proofs.CommandActs.{rewrite_is}
use Rattle.gv_commandnodes.proofs.generated.command_node.rewrite_made.Goals as goal

pub returns : goal.returns
returns c = λ whole is. rewrite_is c.args.text.now c.args.nodes.now c.args.at c.token_of-word.result c.place_of-old.result c.place_of-new.result c.requires.made c.token_of-word.ensures c.place_of-old.ensures c.place_of-new.ensures whole is
