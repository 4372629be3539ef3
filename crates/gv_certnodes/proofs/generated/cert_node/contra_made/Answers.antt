use Rattle.gv_certnodes.proofs.CertActs.{contra_is}
use Rattle.gv_certnodes.proofs.generated.cert_node.contra_made.Goals as goal

pub returns : goal.returns
returns c = λ whole is. contra_is c.args.text.now c.args.nodes.now c.args.at c.token_of-word.result c.place_of-term.result c.requires.made c.token_of-word.ensures c.place_of-term.ensures whole is
