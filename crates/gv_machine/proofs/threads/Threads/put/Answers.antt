use Rattle.std.proofs.Common.{◌-◌, Some, arith}
use Rattle.gv_machine.proofs.ThreadsLemmas.{set_slot}
use Rattle.gv_machine.proofs.threads.Threads.put.Goals as goal

pub returns-clause-threads : goal.returns-clause-threads
returns-clause-threads c =
    set_slot c.args.self.now.dropped c.args.self.now.slots.items c.args.number (c.args.number - c.args.self.now.dropped - 1) (Some c.args.running) (omega arith)
