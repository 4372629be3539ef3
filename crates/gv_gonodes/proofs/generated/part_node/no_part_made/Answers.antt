use Rattle.gv_gonodes.proofs.PartActs.{no_part_is}
use Rattle.gv_gonodes.proofs.generated.part_node.no_part_made.Goals as goal

pub returns : goal.returns
returns c = λ whole is. no_part_is c.args._nodes.now c.args._at c.requires.made whole is
