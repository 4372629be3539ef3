use Rattle.gv_gonodes.proofs.KeyedActs.{no_keyed_is}
use Rattle.gv_gonodes.proofs.generated.keyed_node.no_keyed_made.Goals as goal

pub returns : goal.returns
returns c = λ whole is. no_keyed_is c.args._nodes.now c.args._at c.requires.made whole is
