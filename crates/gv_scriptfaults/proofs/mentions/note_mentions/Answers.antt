use Rattle.std.proofs.Common.{◌<◌, length, arith}
use Rattle.gv_scriptnames.specs.Found.{of_mention}
use Rattle.gv_scriptfaults.proofs.Meeting.{all_read, all_through}
use Rattle.gv_scriptfaults.proofs.mentions.note_mentions.Goals as goal

pub loop-mention-preserved : goal.loop-mention-preserved
loop-mention-preserved c = λ spec program sc sees.
    let lt : c.loop-mention.mention-index < length c.args.mentions.now = omega arith in
    all_read (of_mention c.args.text.now spec program sc) c.args.mentions.now c.loop-mention.mention-index _ c.args.first.now c.loop-mention.first c.note_mention.new.first lt
    (c.loop-mention.invariant spec program sc sees) (c.in_ok-note_mention.ensures spec program sc sees)

pub returns : goal.returns
returns c = λ spec program sc sees.
    all_through (of_mention c.args.text.now spec program sc) c.args.mentions.now c.loop-mention.mention-index c.args.first.now c.loop-mention.first (omega arith) (c.loop-mention.invariant spec program sc sees)
