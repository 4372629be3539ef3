use Rattle.std.proofs.Common.{None}
use Rattle.gv_machine.proofs.ThreadsLemmas.{set_slot}
use Rattle.gv_machine.proofs.threads.Threads.end.Goals as goal

pub returns : goal.returns
returns c = set_slot c.args.self.now.dropped c.args.self.now.slots.items c.args.number c.in-Some.at None c.in-Some.ensures.number
