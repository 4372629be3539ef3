use Rattle.std.proofs.Common.{◌++◌, Some, sym, ap, ◌∙◌}
use Rattle.gv_spec.specs.declared.entry.Entry.TheVariants as held
use Rattle.gv_judge.specs.Later.{first_list}
use Rattle.gv_judge.specs.Turn.{acts_from}
use Rattle.gv_judge.proofs.Adds.{boot_first, shown_at, read_at}
use Rattle.gv_judge.proofs.turn.first_turn.Goals as goal

pub returns-in_ok-first_choices-in-Some-Boot-clause-moves : goal.returns-in_ok-first_choices-in-Some-Boot-clause-moves
returns-in_ok-first_choices-in-Some-Boot-clause-moves c =
    let s = c.args.spec.now in
    let n = c.args.node.now in
    let read = c.in-Some-Boot.ensures.lookup in
    boot_first s n.fields.values n.waiting.items c.in_ok-first_choices-in-Some-Boot.field-0.items (c.in_ok-first_choices-in-Some-Boot.ensures ∙ ap first_list c.crash_parts.ensures.picks)
    ∙ ap (λ l. l ++ acts_from s n.fields.values n.waiting.items)
    (sym (shown_at s n.fields.values c.args.history.now n.place held.Boot (read_at c.args.history.now n.place c.in-Some-Boot.field-0.now read.3.0 read.1 ∙ ap Some c.in-Some-Boot.field-0-is)))
