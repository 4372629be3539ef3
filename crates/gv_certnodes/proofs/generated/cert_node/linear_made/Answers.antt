use Rattle.gv_certnodes.proofs.CertActs.{linear_is}
use Rattle.gv_certnodes.proofs.generated.cert_node.linear_made.Goals as goal

pub returns : goal.returns
returns c = λ whole is. linear_is c.args.text.now c.args.nodes.now c.args.at c.token_of-word.result c.place_of-sums.result c.place_of-factors.result c.requires.made c.token_of-word.ensures c.place_of-sums.ensures c.place_of-factors.ensures whole is
