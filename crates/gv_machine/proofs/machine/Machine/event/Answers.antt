use Rattle.gv_lang.specs.Plain.{program_of}
use Rattle.gv_spec.specs.Atomic.{atomic_of}
use Rattle.gv_spec.specs.History.{event_of}
use Rattle.gv_runs.specs.Machine.{setting_of}
use Rattle.gv_machine.specs.Seen.{state_of}
use Rattle.gv_machine.proofs.Events.{comes_kept}
use Rattle.gv_machine.proofs.machine.Machine.event.Goals as goal

pub invariant_of-self : goal.invariant_of-self
invariant_of-self c =
    let held = comes_kept c.bounds.ensures (program_of c.args.self.now.program.now) (setting_of c.args.self.now.spec.now) (atomic_of c.args.self.now.spec.now).allows
    (state_of c.args.self.now.run) (event_of c.args.e.now) c.args.self.now.bounded c.args.self.now.numbered c.event.result (state_of c.event.new.self) c.event.ensures.event in
    record { bounded = held.bounded; numbered = held.numbered }

pub returns-clause-threads : goal.returns-clause-threads
returns-clause-threads c =
    let held = comes_kept c.bounds.ensures (program_of c.args.self.now.program.now) (setting_of c.args.self.now.spec.now) (atomic_of c.args.self.now.spec.now).allows
    (state_of c.args.self.now.run) (event_of c.args.e.now) c.args.self.now.bounded c.args.self.now.numbered c.event.result (state_of c.event.new.self) c.event.ensures.event in
    held.few
