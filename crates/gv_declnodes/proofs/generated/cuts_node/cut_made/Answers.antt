use Rattle.gv_declnodes.proofs.CutsActs.{cut_is}
use Rattle.gv_declnodes.proofs.generated.cuts_node.cut_made.Goals as goal

pub returns : goal.returns
returns c = λ whole is. cut_is c.args.text.now c.args.nodes.now c.args.at c.place_of-cuts.result c.token_of-name.result c.token_of-number.result c.token_of-mode.result c.place_of-locals.result c.place_of-vars.result c.place_of-items.result c.place_of-block.result c.requires.made c.place_of-cuts.ensures c.token_of-name.ensures c.token_of-number.ensures c.token_of-mode.ensures c.place_of-locals.ensures c.place_of-vars.ensures c.place_of-items.ensures c.place_of-block.ensures whole is
