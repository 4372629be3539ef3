use Rattle.gv_certnodes.proofs.TermsActs.{word_terms_is}
use Rattle.gv_certnodes.proofs.generated.terms_node.word_terms_made.Goals as goal

pub returns : goal.returns
returns c = λ whole is. word_terms_is c.args.text.now c.args.nodes.now c.args.at c.place_of-terms.result c.requires.made c.place_of-terms.ensures whole is
