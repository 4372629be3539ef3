use Rattle.std.proofs.Common.{◌≡◌}
use Rattle.gv_replay.specs.Reading.{entries_in}
use Rattle.gv_replay.proofs.reading.entries_in.Given as goal

abbrev pub invariant-loop-m : goal.invariant-loop-m
invariant-loop-m l = l.entries.items ≡ entries_in l.yielded
