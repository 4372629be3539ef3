use Rattle.gv_gonodes.proofs.ImportsActs.{no_imports_is}
use Rattle.gv_gonodes.proofs.generated.imports_node.no_imports_made.Goals as goal

pub returns : goal.returns
returns c = λ whole is. no_imports_is c.args._nodes.now c.args._at c.requires.made whole is
