use Rattle.std.proofs.Common.{◌≡◌, ◌+◌, ◌≤◌, length, map, sum}
use Rattle.std.specs.Prelude.{All}
use Rattle.gv_spec.specs.History.{IsEventOf}
use Rattle.gv_machine.specs.Machines.{program_in, spec_in, state_in}
use Rattle.gv_played.proofs.Lines.{IsPlayed}
use Rattle.gv_played.proofs.replaying.replay.Given as goal

abbrev pub invariant-loop-rest : goal.invariant-loop-rest
invariant-loop-rest l = record {
  played : IsPlayed l.fn.program l.fn.spec l.fn.s.events l.rest l.before (state_in l.machine);
  program : program_in l.machine ≡ l.fn.program;
  spec : spec_in l.machine ≡ l.fn.spec;
  events : All (λ line. IsEventOf l.fn.spec line.event) l.rest;
  counts : l.before + sum (map (λ line. line.count) l.rest) ≤ 1000000;
  threads : length (state_in l.machine).threads ≤ l.before + 1;
}

abbrev pub decreases-loop-rest : goal.decreases-loop-rest
decreases-loop-rest l = length l.rest
