use Rattle.std.proofs.Common.{◌≡◌, ◌-◌, ◌≤◌, length, take}
use Rattle.gv_base.specs.Outside.{Appended}
use Rattle.gv_report.proofs.pieces.put_all.Given as goal

abbrev pub invariant-loop-at : goal.invariant-loop-at
invariant-loop-at g l = record {
  written : Appended (g.K.Sink.written l.initial.out) (take l.at l.text) (g.K.Sink.written l.out);
  calm : g.K.Sink.faults l.out ≡ g.K.Sink.faults l.initial.out;
  within : l.at ≤ length l.text;
}

abbrev pub decreases-loop-at : goal.decreases-loop-at
decreases-loop-at g l = length l.text - l.at
