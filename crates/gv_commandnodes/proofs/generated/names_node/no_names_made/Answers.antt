use Rattle.gv_commandnodes.proofs.NamesActs.{no_names_is}
use Rattle.gv_commandnodes.proofs.generated.names_node.no_names_made.Goals as goal

pub returns : goal.returns
returns c = λ whole is. no_names_is c.args._text.now c.args._nodes.now c.args._at c.requires.made whole is
