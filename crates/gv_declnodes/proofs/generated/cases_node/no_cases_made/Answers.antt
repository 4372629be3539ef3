use Rattle.gv_declnodes.proofs.CasesActs.{no_cases_is}
use Rattle.gv_declnodes.proofs.generated.cases_node.no_cases_made.Goals as goal

pub returns : goal.returns
returns c = λ whole is. no_cases_is c.args._text.now c.args._nodes.now c.args._at c.requires.made whole is
