use Rattle.std.proofs.Common.{◌≡◌, ◌+◌, ◌-◌, ◌≤◌, length}
use Rattle.gv_spec.specs.History.{event_of}
use Rattle.gv_machine.specs.Machines.{program_in, spec_in, state_in}
use Rattle.gv_played.specs.Playing.{IsThrough}
use Rattle.gv_played.proofs.line.play.Given as goal

abbrev pub invariant-loop-done : goal.invariant-loop-done
invariant-loop-done l = record {
  through : IsThrough (program_in l.fn.machine) (spec_in l.fn.machine) (state_in l.fn.machine) (event_of l.e) l.done (state_in l.machine);
  within : l.done ≤ l.count;
  threads : length (state_in l.machine).threads ≤ length (state_in l.fn.machine).threads + l.done;
  program : program_in l.machine ≡ program_in l.fn.machine;
  spec : spec_in l.machine ≡ spec_in l.fn.machine;
}

abbrev pub decreases-loop-done : goal.decreases-loop-done
decreases-loop-done l = l.count - l.done
