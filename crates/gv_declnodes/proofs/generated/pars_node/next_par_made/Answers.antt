use Rattle.gv_declnodes.proofs.ParsActs.{next_par_is}
use Rattle.gv_declnodes.proofs.generated.pars_node.next_par_made.Goals as goal

pub returns : goal.returns
returns c = λ whole is. next_par_is c.args.text.now c.args.nodes.now c.args.at c.place_of-pars.result c.token_of-name.result c.token_of-sort.result c.requires.made c.place_of-pars.ensures c.token_of-name.ensures c.token_of-sort.ensures whole is
