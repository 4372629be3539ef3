use Rattle.gv_gonodes.proofs.GroupsActs.{past_groups_is}
use Rattle.gv_gonodes.proofs.generated.groups_node.past_groups_made.Goals as goal

pub returns : goal.returns
returns c = λ whole is. past_groups_is c.args.nodes.now c.args.at c.place_of-groups.result c.requires.made c.place_of-groups.ensures whole is
