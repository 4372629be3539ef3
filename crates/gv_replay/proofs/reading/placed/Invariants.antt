use Rattle.std.proofs.Common.{◌≡◌, map}
use Rattle.gv_replay.specs.Plans.{placed}
use Rattle.gv_replay.proofs.reading.placed.Given as goal

abbrev pub invariant-loop-planned : goal.invariant-loop-planned
invariant-loop-planned l = l.lines.items ≡ map (placed l.text) l.yielded
