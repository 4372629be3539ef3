use Rattle.gv_commandnodes.proofs.CommandsActs.{no_commands_is}
use Rattle.gv_commandnodes.proofs.generated.commands_node.no_commands_made.Goals as goal

pub returns : goal.returns
returns c = λ whole is. no_commands_is c.args._text.now c.args._nodes.now c.args._at c.requires.made whole is
