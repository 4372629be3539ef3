use Rattle.std.proofs.Common.{◌≡◌, [], length}
use Rattle.gv_small.specs.Cursor.{tokens_left}
use Rattle.gv_small.specs.Reading.{joined}
use Rattle.gv_top.specs.Reading as reading
use Rattle.gv_top.proofs.small_script.blocks.Given as goal

abbrev pub invariant-loop-alloc : goal.invariant-loop-alloc
invariant-loop-alloc l = joined l.ops (reading.blocks (tokens_left l.cursor)) ≡ joined [] (reading.blocks (tokens_left l.initial.cursor))

abbrev pub decreases-loop-alloc : goal.decreases-loop-alloc
decreases-loop-alloc l = length (tokens_left l.cursor)
