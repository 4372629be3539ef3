use Rattle.gv_spec.specs.History.{event_of}
use Rattle.gv_machine.specs.Machines.{program_in, spec_in, state_in}
use Rattle.gv_played.proofs.Throughs.{goes_done, goes_blocked}
use Rattle.gv_played.proofs.line.try_once.Goals as goal

pub returns-in-Done-clause-event : goal.returns-in-Done-clause-event
returns-in-Done-clause-event c =
    goes_done (program_in c.args.machine.now) (spec_in c.args.machine.now) (state_in c.args.machine.now) (state_in c.event.new.self) (event_of c.args.e.now)
    c.in-Done.ensures.event.0 c.in-Done.ensures.event.1

pub returns-in-Blocked-clause-event : goal.returns-in-Blocked-clause-event
returns-in-Blocked-clause-event c =
    goes_blocked (program_in c.args.machine.now) (spec_in c.args.machine.now) (state_in c.args.machine.now) (state_in c.event.new.self) (event_of c.args.e.now)
    c.in-Blocked.ensures.event.0 c.in-Blocked.ensures.event.1
