use Rattle.std.proofs.Common.{◌≡◌, ◌≤◌, length}
use Rattle.gv_small.specs.Tokens as spec
use Rattle.gv_small.specs.Reading as reading
use Rattle.gv_small.specs.Cursor.{tokens_left, kinds_left, bytes_left}
use Rattle.gv_small.proofs.reading.expect.Given as goal

abbrev pub invariant-loop-want : goal.invariant-loop-want
invariant-loop-want l = record {
  all : reading.behind_all (kinds_left l.wanted) (kinds_left l.cursor) ≡ reading.behind_all (spec.plain l.fn.text) (kinds_left l.initial.cursor);
  placed : reading.behind_placed (kinds_left l.wanted) (tokens_left l.cursor) ≡ reading.behind_placed (spec.plain l.fn.text) (tokens_left l.initial.cursor);
  fewer : bytes_left l.cursor ≤ bytes_left l.initial.cursor;
}

abbrev pub decreases-loop-want : goal.decreases-loop-want
decreases-loop-want l = length (tokens_left l.wanted)
