use Rattle.gv_commandnodes.proofs.CommandActs.{cases_is}
use Rattle.gv_commandnodes.proofs.generated.command_node.cases_made.Goals as goal

pub returns : goal.returns
returns c = λ whole is. cases_is c.args.text.now c.args.nodes.now c.args.at c.token_of-word.result c.place_of-term.result c.place_of-first.result c.place_of-second.result c.requires.made c.token_of-word.ensures c.place_of-term.ensures c.place_of-first.ensures c.place_of-second.ensures whole is
