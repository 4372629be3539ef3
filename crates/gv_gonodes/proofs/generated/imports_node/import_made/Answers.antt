use Rattle.gv_gonodes.proofs.ImportsActs.{import_is}
use Rattle.gv_gonodes.proofs.generated.imports_node.import_made.Goals as goal

pub returns : goal.returns
returns c = λ whole is. import_is c.args.nodes.now c.args.at c.place_of-imports.result c.place_of-texts.result c.requires.made c.place_of-imports.ensures c.place_of-texts.ensures whole is
