use Rattle.gv_commandnodes.proofs.CommandActs.{step_is}
use Rattle.gv_commandnodes.proofs.generated.command_node.step_made.Goals as goal

pub returns : goal.returns
returns c = λ whole is. step_is c.args.text.now c.args.nodes.now c.args.at c.token_of-word.result c.place_of-given.result c.place_of-names.result c.place_of-during.result c.place_of-blocks.result c.requires.made c.token_of-word.ensures c.place_of-given.ensures c.place_of-names.ensures c.place_of-during.ensures c.place_of-blocks.ensures whole is
