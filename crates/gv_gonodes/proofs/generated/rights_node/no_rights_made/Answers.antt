use Rattle.gv_gonodes.proofs.RightsActs.{no_rights_is}
use Rattle.gv_gonodes.proofs.generated.rights_node.no_rights_made.Goals as goal

pub returns : goal.returns
returns c = λ whole is. no_rights_is c.args._nodes.now c.args._at c.requires.made whole is
