use Rattle.gv_commandnodes.proofs.CommandActs.{let_is}
use Rattle.gv_commandnodes.proofs.generated.command_node.let_made.Goals as goal

pub returns : goal.returns
returns c = λ whole is. let_is c.args.text.now c.args.nodes.now c.args.at c.token_of-word.result c.token_of-name.result c.place_of-term.result c.requires.made c.token_of-word.ensures c.token_of-name.ensures c.place_of-term.ensures whole is
