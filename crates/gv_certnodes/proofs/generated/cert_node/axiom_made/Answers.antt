use Rattle.gv_certnodes.proofs.CertActs.{axiom_is}
use Rattle.gv_certnodes.proofs.generated.cert_node.axiom_made.Goals as goal

pub returns : goal.returns
returns c = λ whole is. axiom_is c.args.text.now c.args.nodes.now c.args.at c.token_of-word.result c.token_of-number.result c.place_of-terms.result c.requires.made c.token_of-word.ensures c.token_of-number.ensures c.place_of-terms.ensures whole is
