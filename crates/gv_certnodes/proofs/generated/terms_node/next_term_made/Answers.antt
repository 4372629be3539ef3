use Rattle.gv_certnodes.proofs.TermsActs.{next_term_is}
use Rattle.gv_certnodes.proofs.generated.terms_node.next_term_made.Goals as goal

pub returns : goal.returns
returns c = λ whole is. next_term_is c.args.text.now c.args.nodes.now c.args.at c.place_of-terms.result c.place_of-term.result c.requires.made c.place_of-terms.ensures c.place_of-term.ensures whole is
