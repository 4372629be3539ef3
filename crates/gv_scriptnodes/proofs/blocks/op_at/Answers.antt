use Rattle.std.proofs.Common.{◌≡◌}
use Rattle.gv_scriptnames.specs.Outlines.{of_body}
use Rattle.gv_scriptnodes.proofs.BlockActs.{op_is}
use Rattle.gv_scriptnodes.proofs.blocks.op_at.Goals as goal

pub returns : goal.returns
returns c = λ whole is.
    let n = op_is c.args.text.now c.args.nodes.now c.args.at c.requires.made whole is in
    let q_name : c.token_of-name.result ≡ n.name = n.at_name c.token_of-name.result c.token_of-name.ensures in
    let q_body : c.in_ok-body.body ≡ of_body n.block n.cuts = c.in_ok-body.ensures n.block n.cuts (n.at_block c.place_of-block_at.result c.place_of-block_at.ensures) (n.at_cuts c.place_of-cuts_at.result c.place_of-cuts_at.ensures) in
    record { rest = n.ops; last = record { name = n.name; block = n.block; cuts = n.cuts }; left = n.at_ops; same = cc; made = n.made }
