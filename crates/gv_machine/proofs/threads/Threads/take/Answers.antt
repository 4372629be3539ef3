use Rattle.std.proofs.Common.{None, ap, ◌∙◌}
use Rattle.std.proofs.Math.ListN.{set}
use Rattle.gv_machine.proofs.ThreadsLemmas.{under_numbers, slot_is, set_slot}
use Rattle.gv_machine.proofs.threads.Threads.take.Goals as goal

pub returns-clause-thread : goal.returns-clause-thread
returns-clause-thread c =
    let items = c.args.self.now.slots.items in
    slot_is c.args.self.now.dropped items c.args.number c.in-Some.at c.replace.result c.in-Some.ensures.within c.in-Some.ensures.number (cc)

pub returns-clause-rest : goal.returns-clause-rest
returns-clause-rest c =
    ap (λ slot. under_numbers c.args.self.now.dropped (set c.args.self.now.slots.items c.in-Some.at slot)) c.replace.ensures.after
    ∙ set_slot c.args.self.now.dropped c.args.self.now.slots.items c.args.number c.in-Some.at None c.in-Some.ensures.number
