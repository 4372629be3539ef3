use Rattle.gv_certnodes.proofs.CertActs.{given_is}
use Rattle.gv_certnodes.proofs.generated.cert_node.given_made.Goals as goal

pub returns : goal.returns
returns c = λ whole is. given_is c.args.text.now c.args.nodes.now c.args.at c.token_of-word.result c.requires.made c.token_of-word.ensures whole is
