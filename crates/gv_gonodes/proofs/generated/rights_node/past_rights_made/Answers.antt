use Rattle.gv_gonodes.proofs.RightsActs.{past_rights_is}
use Rattle.gv_gonodes.proofs.generated.rights_node.past_rights_made.Goals as goal

pub returns : goal.returns
returns c = λ whole is. past_rights_is c.args.nodes.now c.args.at c.place_of-rights.result c.requires.made c.place_of-rights.ensures whole is
