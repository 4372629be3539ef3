use Rattle.gv_certnodes.proofs.HavesActs.{step_have_is}
use Rattle.gv_certnodes.proofs.generated.haves_node.step_have_made.Goals as goal

pub returns : goal.returns
returns c = λ whole is. step_have_is c.args.text.now c.args.nodes.now c.args.at c.place_of-haves.result c.token_of-word.result c.place_of-term.result c.place_of-proof.result c.requires.made c.place_of-haves.ensures c.token_of-word.ensures c.place_of-term.ensures c.place_of-proof.ensures whole is
