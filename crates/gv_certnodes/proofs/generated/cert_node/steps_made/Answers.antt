use Rattle.gv_certnodes.proofs.CertActs.{steps_is}
use Rattle.gv_certnodes.proofs.generated.cert_node.steps_made.Goals as goal

pub returns : goal.returns
returns c = λ whole is. steps_is c.args.text.now c.args.nodes.now c.args.at c.token_of-word.result c.place_of-haves.result c.place_of-last.result c.requires.made c.token_of-word.ensures c.place_of-haves.ensures c.place_of-last.ensures whole is
