use Rattle.gv_scriptnodes.proofs.NoTokens.{token_there}
use Rattle.gv_certnodes.proofs.parts.token_of.Goals as goal

pub returns : goal.returns
returns c =
    token_there c.args.text.now c.args.nodes.now c.args.at c.args.number c.place_of-place.result c.node_at-node.result c.token_in.result c.place_of-place.ensures c.node_at-node.ensures
    c.token_in.ensures
