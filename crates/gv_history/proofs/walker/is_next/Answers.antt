use Rattle.std.proofs.Common.{◌∙◌, sym}
use Rattle.gv_history.proofs.WalkerLemmas.{same_told, in_order_at}
use Rattle.gv_history.proofs.walker.is_next.Goals as goal

pub returns-in-len1-up : goal.returns-in-len1-up
returns-in-len1-up c =
    same_told c.args.entry.now c.next-item.result c.same.result c.same.ensures
    ∙ sym (in_order_at c.args.left.now c.args.entry.now c.next-item.result c.in-len1-up.len_at_least c.next-item.is)
