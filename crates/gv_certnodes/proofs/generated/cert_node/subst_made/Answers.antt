use Rattle.gv_certnodes.proofs.CertActs.{subst_is}
use Rattle.gv_certnodes.proofs.generated.cert_node.subst_made.Goals as goal

pub returns : goal.returns
returns c = λ whole is. subst_is c.args.text.now c.args.nodes.now c.args.at c.token_of-word.result c.place_of-equation.result c.place_of-within.result c.requires.made c.token_of-word.ensures c.place_of-equation.ensures c.place_of-within.ensures whole is
