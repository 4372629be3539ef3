use Rattle.gv_declnodes.proofs.CasesActs.{next_case_is}
use Rattle.gv_declnodes.proofs.generated.cases_node.next_case_made.Goals as goal

pub returns : goal.returns
returns c = λ whole is. next_case_is c.args.text.now c.args.nodes.now c.args.at c.place_of-cases.result c.place_of-next.result c.requires.made c.place_of-cases.ensures c.place_of-next.ensures whole is
