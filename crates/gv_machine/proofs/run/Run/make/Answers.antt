use Rattle.std.proofs.Common.{sym, subst}
use Rattle.gv_lang.specs.Plain.{program_of}
use Rattle.gv_spec.specs.declared.event.Event.{Event}
use Rattle.gv_spec.specs.Atomic.{atomic_of}
use Rattle.gv_spec.specs.History.{event_of}
use Rattle.gv_spec.specs.Runs.{event_made}
use Rattle.gv_runs.specs.Machine.{machine_of, setting_of}
use Rattle.gv_machine.specs.Outcomes.{Makes}
use Rattle.gv_machine.specs.Seen.{state_of}
use Rattle.gv_machine.proofs.run.Run.make.Goals as goal

pub returns-in-Step : goal.returns-in-Step
returns-in-Step c =
    let P : Event → Type 0 =
    λ e. Makes (event_made (machine_of (program_of c.args.program.now) (setting_of c.args.spec.now)) (atomic_of c.args.spec.now).allows (state_of c.args.self.now) (event_of e))
    (state_of c.args.self.now) c.step.result (state_of c.step.new.self) in
    subst P (sym c.in-Step.is) (c.step.ensures (setting_of c.args.spec.now))

pub returns-in-Crash : goal.returns-in-Crash
returns-in-Crash c =
    let P : Event → Type 0 =
    λ e. Makes (event_made (machine_of (program_of c.args.program.now) (setting_of c.args.spec.now)) (atomic_of c.args.spec.now).allows (state_of c.args.self.now) (event_of e))
    (state_of c.args.self.now) c.crash.result (state_of c.crash.new.self) in
    subst P (sym c.in-Crash.is) (c.crash.ensures (setting_of c.args.spec.now))
