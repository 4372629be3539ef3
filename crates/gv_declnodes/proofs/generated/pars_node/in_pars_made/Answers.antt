use Rattle.gv_declnodes.proofs.ParsActs.{in_pars_is}
use Rattle.gv_declnodes.proofs.generated.pars_node.in_pars_made.Goals as goal

pub returns : goal.returns
returns c = λ whole is. in_pars_is c.args.text.now c.args.nodes.now c.args.at c.place_of-pars.result c.requires.made c.place_of-pars.ensures whole is
