use Rattle.gv_judge.proofs.turn.later_boot.Goals as goal

pub next_choices-requires : goal.next_choices-requires
next_choices-requires c = c.crash_parts.ensures.picks_within
