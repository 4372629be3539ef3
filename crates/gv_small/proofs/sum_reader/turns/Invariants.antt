use Rattle.std.proofs.Common.{◌≡◌, [], List}
use Rattle.gv_small.specs.Cursor.{kinds_left, bytes_left}
use Rattle.gv_small.specs.Reading as reading
use Rattle.gv_small.proofs.sum_reader.turns.Given as goal

abbrev pub invariant-loop-alloc : goal.invariant-loop-alloc
invariant-loop-alloc l = reading.joined l.rest (reading.turns l.fn.params.keys (kinds_left l.cursor)) ≡ reading.joined [] (reading.turns l.fn.params.keys (kinds_left l.initial.cursor))

abbrev pub decreases-loop-alloc : goal.decreases-loop-alloc
decreases-loop-alloc l = bytes_left l.cursor
