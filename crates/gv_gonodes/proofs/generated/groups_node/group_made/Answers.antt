use Rattle.gv_gonodes.proofs.GroupsActs.{group_is}
use Rattle.gv_gonodes.proofs.generated.groups_node.group_made.Goals as goal

pub returns : goal.returns
returns c = λ whole is. group_is c.args.nodes.now c.args.at c.place_of-groups.result c.place_of-names.result c.place_of-kind.result c.requires.made c.place_of-groups.ensures c.place_of-names.ensures c.place_of-kind.ensures whole is
