use Rattle.gv_gonodes.proofs.TypesActs.{no_types_is}
use Rattle.gv_gonodes.proofs.generated.types_node.no_types_made.Goals as goal

pub returns : goal.returns
returns c = λ whole is. no_types_is c.args._nodes.now c.args._at c.requires.made whole is
