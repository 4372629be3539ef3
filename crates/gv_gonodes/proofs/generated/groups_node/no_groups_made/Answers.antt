use Rattle.gv_gonodes.proofs.GroupsActs.{no_groups_is}
use Rattle.gv_gonodes.proofs.generated.groups_node.no_groups_made.Goals as goal

pub returns : goal.returns
returns c = λ whole is. no_groups_is c.args._nodes.now c.args._at c.requires.made whole is
