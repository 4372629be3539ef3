use Rattle.std.proofs.Common.{◌≡◌, ◌+◌, ◌≤◌, length}
use Rattle.std.specs.Prelude.{All}
use Rattle.gv_spec.specs.History.{IsEventOf}
use Rattle.gv_machine.specs.Machines.{spec_in, state_in}
use Rattle.machine_cases.proofs.tries.tries_text.Given as goal

abbrev pub invariant-loop-rest : goal.invariant-loop-rest
invariant-loop-rest l = record {
  spec : spec_in l.machine ≡ l.fn.spec;
  events : All (λ line. IsEventOf l.fn.spec line.event) l.rest;
  threads : length (state_in l.machine).threads + l.left ≤ 1000001;
}

abbrev pub decreases-loop-rest : goal.decreases-loop-rest
decreases-loop-rest l = length l.rest
