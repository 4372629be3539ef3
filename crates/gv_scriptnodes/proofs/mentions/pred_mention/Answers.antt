use Rattle.std.proofs.Common.{◌≡◌, length}
use Rattle.gv_scriptnodes.proofs.MentionActs.{pred_named}
use Rattle.gv_scriptnodes.proofs.mentions.pred_mention.Goals as goal

pub returns : goal.returns
returns c =
    let n = pred_named c.args.text.now c.args.nodes.now c.args.at c.requires.formed c.requires.made in
    let whole = n.same in
    let q_name : c.token_of-name.result ≡ n.name = n.at_name c.token_of-name.result c.token_of-name.ensures in
    let q_count : c.count_terms-count.result ≡ length n.terms = c.count_terms-count.ensures n.terms (n.at_terms c.place_of-terms.result c.place_of-terms.ensures) in
    cc
