use Rattle.std.proofs.Common.{◌≡◌}
use Rattle.gv_scriptnodes.proofs.MentionActs.{book_named}
use Rattle.gv_scriptnodes.proofs.mentions.book_mention.Goals as goal

pub returns : goal.returns
returns c =
    let n = book_named c.args.text.now c.args.nodes.now c.args.at c.requires.formed c.requires.made in
    let whole = n.same in
    let q_name : c.token_of-name.result ≡ n.name = n.at_name c.token_of-name.result c.token_of-name.ensures in
    cc
