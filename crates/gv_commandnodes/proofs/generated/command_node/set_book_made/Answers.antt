use Rattle.gv_commandnodes.proofs.CommandActs.{set_book_is}
use Rattle.gv_commandnodes.proofs.generated.command_node.set_book_made.Goals as goal

pub returns : goal.returns
returns c = λ whole is. set_book_is c.args.text.now c.args.nodes.now c.args.at c.token_of-word.result c.token_of-name.result c.place_of-place.result c.place_of-value.result c.requires.made c.token_of-word.ensures c.token_of-name.ensures c.place_of-place.ensures c.place_of-value.ensures whole is
