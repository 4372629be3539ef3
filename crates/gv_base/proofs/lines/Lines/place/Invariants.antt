use Rattle.std.proofs.Common.{◌-◌, ◌<◌, ◌≤◌, length, take}
use Rattle.gv_base.specs.Lines.{AreStarts}
use Rattle.gv_base.specs.Places.{lines_ended}
use Rattle.gv_base.proofs.lines.Lines.place.Given as goal

abbrev pub invariant-loop-high : goal.invariant-loop-high
invariant-loop-high l = record {
  starts : AreStarts l.self (length l.self) l.starts;
  within : l.high ≤ length l.starts;
  above : l.low ≤ lines_ended (take l.at l.self);
  below : lines_ended (take l.at l.self) < l.high;
}

abbrev pub decreases-loop-high : goal.decreases-loop-high
decreases-loop-high l = l.high - l.low
