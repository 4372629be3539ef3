use Rattle.gv_judge.proofs.RepeatLaws.{more_told}
use Rattle.gv_judge.proofs.repeats.repeats.Goals as goal

pub loop-left-preserved : goal.loop-left-preserved
loop-left-preserved c =
    more_told c.args.history.now c.loop-left.left.now c.loop-left.seen.keys _ c.loop-left.told.items _ c.entry-item.result c.in_ok-is_repeat.field-0 c.loop-left.invariant
    c.in-len1-up.len_at_least c.entry-item.is c.in_ok-is_repeat.ensures.told c.in_ok-is_repeat.ensures.seen c.in_ok-push.ensures.items
