use Rattle.std.proofs.Common.{◌≡◌, ◌+◌, ◌-◌, ◌≤◌, length}
use Rattle.gv_machine.specs.Machines.{spec_in, state_in}
use Rattle.machine_cases.proofs.tries.tried.Given as goal

abbrev pub invariant-loop-done : goal.invariant-loop-done
invariant-loop-done l = record {
  within : l.done ≤ l.count;
  threads : length (state_in l.machine).threads ≤ length (state_in l.fn.machine).threads + l.done;
  spec : spec_in l.machine ≡ spec_in l.fn.machine;
}

abbrev pub decreases-loop-done : goal.decreases-loop-done
decreases-loop-done l = l.count - l.done
