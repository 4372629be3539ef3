use Rattle.gv_certnodes.proofs.MaybeTermActs.{word_term_is}
use Rattle.gv_certnodes.proofs.generated.maybe_term_node.word_term_made.Goals as goal

pub returns : goal.returns
returns c = λ whole is. word_term_is c.args.text.now c.args.nodes.now c.args.at c.place_of-term.result c.requires.made c.place_of-term.ensures whole is
