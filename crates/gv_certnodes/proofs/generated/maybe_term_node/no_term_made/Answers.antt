use Rattle.gv_certnodes.proofs.MaybeTermActs.{no_term_is}
use Rattle.gv_certnodes.proofs.generated.maybe_term_node.no_term_made.Goals as goal

pub returns : goal.returns
returns c = λ whole is. no_term_is c.args._text.now c.args._nodes.now c.args._at c.requires.made whole is
