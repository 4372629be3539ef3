use Rattle.std.proofs.Common.{◌≡◌}
use Rattle.gv_scriptnodes.proofs.MentionActs.{cut_named}
use Rattle.gv_scriptnodes.proofs.mentions.cut_mention.Goals as goal

pub returns : goal.returns
returns c =
    let n = cut_named c.args.text.now c.args.nodes.now c.args.at c.requires.formed c.requires.made in
    let whole = n.same in
    let q_cut : c.token_of-cut.result ≡ n.cut = n.at_cut c.token_of-cut.result c.token_of-cut.ensures in
    cc
