use Rattle.gv_certnodes.proofs.TermsActs.{no_terms_is}
use Rattle.gv_certnodes.proofs.generated.terms_node.no_terms_made.Goals as goal

pub returns : goal.returns
returns c = λ whole is. no_terms_is c.args._text.now c.args._nodes.now c.args._at c.requires.made whole is
