use Rattle.std.proofs.Common.{◌≡◌, ◌+◌, ◌≤◌, length}
use Rattle.gv_small.specs.Cursor.{kinds_left, bytes_left}
use Rattle.gv_small.specs.Reading as reading
use Rattle.gv_small.specs.Tokens.{plain}
use Rattle.gv_small.proofs.parameter_list.more_parameters.Given as goal

abbrev pub invariant-loop-alloc : goal.invariant-loop-alloc
invariant-loop-alloc l = record {
  joined : reading.joined l.names (reading.more_parameters (plain l.fn.kind) (kinds_left l.cursor)) ≡ reading.joined l.initial.names (reading.more_parameters (plain l.fn.kind) (kinds_left l.initial.cursor));
  count : length l.names + bytes_left l.cursor ≤ length l.initial.names + bytes_left l.initial.cursor;
}

abbrev pub decreases-loop-alloc : goal.decreases-loop-alloc
decreases-loop-alloc l = bytes_left l.cursor
