use Rattle.gv_gonodes.proofs.Opened.{token_there}
use Rattle.gv_gonodes.proofs.parts.token_of.Goals as goal

pub returns : goal.returns
returns c =
    token_there c.args.nodes.now c.args.at c.args.number c.place_of-place.result c.node_at-node.result c.token_in.result c.place_of-place.ensures c.node_at-node.ensures
    c.token_in.ensures
