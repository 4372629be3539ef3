use Rattle.gv_declnodes.proofs.CaseActs.{case_is}
use Rattle.gv_declnodes.proofs.generated.case_node.case_made.Goals as goal

pub returns : goal.returns
returns c = λ whole is. case_is c.args.text.now c.args.nodes.now c.args.at c.place_of-vars.result c.place_of-items.result c.requires.made c.place_of-vars.ensures c.place_of-items.ensures whole is
